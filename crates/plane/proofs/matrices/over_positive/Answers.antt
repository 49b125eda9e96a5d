use Rattle.std.proofs.Common.{rules, ◌≡◌, true, false}
use Rattle.std.specs.Prelude.{pos, neg_ℤ, ◌<ℤ◌}
use Rattle.quad_field.specs.Width.{FitsI128}
use Rattle.plane.specs.Vectors.{matrix_term}
use Rattle.plane.specs.Matrices.{rows_of}
use Rattle.plane.specs.MatrixWidth.{EntriesFit, negations}
use Rattle.plane.proofs.matrices.over_positive.Goals as goal

pub returns-in_err-negatives-clause-fits : goal.returns-in_err-negatives-clause-fits
returns-in_err-negatives-clause-fits c =
    let below : c.args.norm <ℤ pos 0 = search rules in
    let none : (c.args.norm <ℤ pos 0 → EntriesFit c.args.f.now (negations (matrix_term (rows_of c.args.n.now))) × FitsI128 (neg_ℤ c.args.norm)) → false ≡ true =
    λ all. c.in_err-negatives.ensures.fits.1 (all below).0 in
    (λ ok. search rules, λ all. let e = none all in search rules)
