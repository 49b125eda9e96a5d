use Rattle.std.proofs.Common.{rules, ◌≡◌, ◌∙◌, sym, ap, to_z, of_z, true, false}
use Rattle.std.specs.Prelude.{ℤ, pos, FitsSigned}
use Rattle.std.specs.Int.{w128}
use Rattle.std.proofs.lemmas.Int.{to_z-of_z}
use Rattle.quad_field.specs.Quads.{quad}
use Rattle.plane.specs.Matrices.{rows_of}
use Rattle.plane.specs.MatrixWidth.{InverseFits}
use Rattle.plane.proofs.Inverses.{not_both, inverse_value, negatives_fit, inverse_fits}
use Rattle.plane.proofs.matrices.inverse_of.Goals as goal

pub returns-in_err-n-clause-fits : goal.returns-in_err-n-clause-fits
returns-in_err-n-clause-fits c =
    let w : ℤ = to_z w128 (of_z w128 c.in_ok-conjugate.norm) in
    let inside : FitsSigned w128 c.in_ok-conjugate.norm = search rules in
    let is : w ≡ c.in_ok-conjugate.norm = to_z-of_z w128 c.in_ok-conjugate.norm inside in
    let none : InverseFits c.args.f.now c.args.a.now → false ≡ true =
    λ fits. c.in_err-n.ensures.fits.1
    (negatives_fit c.args.f.now c.args.a.now c.in_ok-conjugate.conjugate c.in_ok-conjugate.ensures.conjugate w (rows_of c.in_ok-entries.entries)
    (ap (λ (n : ℤ). quad n (pos 0)) is ∙ c.in_ok-conjugate.ensures.norm) c.in_ok-entries.ensures.exact fits) in
    (λ ok. absurd (not_both c.from_residual-in_err-n.result c.from_residual-in_err-n.ensures.0 ok), λ fits. let e = none fits in search rules)

pub returns-clause-inverse : goal.returns-clause-inverse
returns-clause-inverse c =
    let w : ℤ = to_z w128 (of_z w128 c.in_ok-conjugate.norm) in
    let den : ℤ = to_z w128 (of_z w128 c.in_ok-n.den) in
    let inside : FitsSigned w128 c.in_ok-conjugate.norm = search rules in
    let is : w ≡ c.in_ok-conjugate.norm = to_z-of_z w128 c.in_ok-conjugate.norm inside in
    let inside_den : FitsSigned w128 c.in_ok-n.den = search rules in
    let den_is : den ≡ c.in_ok-n.den = to_z-of_z w128 c.in_ok-n.den inside_den in
    inverse_value c.args.f.now c.args.a.now c.reduced.result c.in_ok-conjugate.conjugate w den (rows_of c.in_ok-entries.entries) (rows_of c.in_ok-n.n)
    c.conjugate_and_norm.ensures.denominator (λ e. c.in_ok-conjugate.ensures.not_zero (sym is ∙ e)) (ap (λ (n : ℤ). quad n (pos 0)) is ∙ c.in_ok-conjugate.ensures.norm) c.in_ok-entries.ensures.exact
    (λ h. let y = c.in_ok-n.ensures.above h in (y.0, den_is ∙ y.1), λ h. let y = c.in_ok-n.ensures.below h in (y.0, den_is ∙ y.1)) c.reduced.ensures.value

pub returns-clause-fits : goal.returns-clause-fits
returns-clause-fits c =
    let w : ℤ = to_z w128 (of_z w128 c.in_ok-conjugate.norm) in
    let inside : FitsSigned w128 c.in_ok-conjugate.norm = search rules in
    let is : w ≡ c.in_ok-conjugate.norm = to_z-of_z w128 c.in_ok-conjugate.norm inside in (
      λ e. inverse_fits c.args.f.now c.args.a.now c.in_ok-conjugate.conjugate c.in_ok-conjugate.ensures.conjugate w (rows_of c.in_ok-entries.entries)
          (ap (λ (n : ℤ). quad n (pos 0)) is ∙ c.in_ok-conjugate.ensures.norm) c.in_ok-entries.ensures.exact (c.in_ok-conjugate.ensures.fits.0 e) (c.in_ok-entries.ensures.fits.0 e)
          (c.in_ok-n.ensures.fits.0 e),
      λ fits. search rules,
    )
