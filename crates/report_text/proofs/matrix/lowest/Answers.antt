use Rattle.std.proofs.Common.{◌≡◌, ◌≢◌, ℤ, of_z, sym, subst}
use Rattle.std.specs.Int.{w128}
use Rattle.std.proofs.lemmas.Int.{to_z_pos}
use Rattle.plane.specs.Matrices.{rows_of, IsReducedTo}
use Rattle.report_text.proofs.MatrixLines.{lowest_some, lowest_none}
use Rattle.report_text.proofs.matrix.lowest.Goals as goal

pub returns-then-denominator-den : goal.returns-then-denominator-den
returns-then-denominator-den c =
    let matrix = c.reduced-matrix.result in
    let value = subst (λ (z : ℤ). IsReducedTo (rows_of c.args.n) z matrix) (to_z_pos w128 c.args.den c.requires.within) c.reduced-matrix.ensures.value in
    let same : matrix.denominator ≡ c.args.den = subst (λ (z : ℤ). of_z w128 z ≡ c.args.den) c.denominator.ensures.denominator c.if-denominator-den.true in
    lowest_some c.args.n c.args.den matrix value c.reduced-matrix.ensures.lowest same

pub returns-else-denominator-den : goal.returns-else-denominator-den
returns-else-denominator-den c =
    let matrix = c.reduced-matrix.result in
    let value = subst (λ (z : ℤ). IsReducedTo (rows_of c.args.n) z matrix) (to_z_pos w128 c.args.den c.requires.within) c.reduced-matrix.ensures.value in
    let other : matrix.denominator ≢ c.args.den =
    λ same. c.if-denominator-den.false (subst (λ (z : ℤ). of_z w128 z ≡ c.args.den) (sym c.denominator.ensures.denominator) same) in
    lowest_none c.args.n c.args.den matrix value c.reduced-matrix.ensures.lowest other
