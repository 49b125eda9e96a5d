use Rattle.std.proofs.Common.{rules, ◌≡◌, ◌∙◌, to_z, of_z}
use Rattle.std.specs.Prelude.{FitsSigned}
use Rattle.std.specs.Int.{w128}
use Rattle.std.proofs.lemmas.Int.{to_z-of_z}
use Rattle.plane.specs.Matrices.{rows_of, matrix_times}
use Rattle.plane.proofs.LowestTerms.{reduced_value}
use Rattle.plane.proofs.matrices.product_of.Goals as goal

pub returns-clause-product : goal.returns-clause-product
returns-clause-product c =
    let fits : FitsSigned w128 c.in_ok-den.den = search rules in
    let is : to_z w128 (of_z w128 c.in_ok-den.den) ≡ c.in_ok-den.den = to_z-of_z w128 c.in_ok-den.den fits in
    reduced_value (rows_of c.in_ok-n.n) (to_z w128 (of_z w128 c.in_ok-den.den)) (matrix_times c.args.f.now c.args.a.now c.args.b.now) c.reduced.result
    c.in_ok-n.ensures.exact (is ∙ c.in_ok-den.ensures.exact) c.reduced.ensures.value

pub returns-clause-fits : goal.returns-clause-fits
returns-clause-fits c = (λ e. (c.in_ok-n.ensures.fits.0 e, c.in_ok-den.ensures.fits.0 e), λ fits. search rules)
