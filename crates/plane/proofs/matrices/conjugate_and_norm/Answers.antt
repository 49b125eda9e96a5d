use Rattle.std.proofs.Common.{rules, ◌≡◌, sym, refl, subst, ◌∙◌, to_z, of_z}
use Rattle.std.specs.Prelude.{FitsSigned}
use Rattle.std.specs.Int.{w128}
use Rattle.std.proofs.lemmas.Int.{to_z-of_z}
use Rattle.rings.specs.Matrices.{matrix_det}
use Rattle.quad_field.specs.declared.quad.Quad.{Quad}
use Rattle.quad_field.specs.Quads.{quad_ops, conjugate_of, IsZero}
use Rattle.plane.proofs.Inverses.{norm_not_zero}
use Rattle.plane.proofs.matrices.conjugate_and_norm.Goals as goal

pub returns-clause-not_zero : goal.returns-clause-not_zero
returns-clause-not_zero c =
    let fits : FitsSigned w128 c.in_ok-norm.norm = search rules in
    let is : to_z w128 (of_z w128 c.in_ok-norm.norm) ≡ c.in_ok-norm.norm = to_z-of_z w128 c.in_ok-norm.norm fits in
    let determinant : c.in_ok-determinant.determinant ≡ matrix_det (quad_ops c.args.f.now) c.args.a.now.rows = search rules in
    λ e. norm_not_zero c.args.f.now c.in_ok-determinant.determinant (conjugate_of c.in_ok-determinant.determinant) c.in_ok-norm.norm c.number-number.ensures.valid
    (subst (λ (x : Quad). ¬ (IsZero x)) (sym determinant) c.requires.invertible) refl c.in_ok-norm.ensures.exact (sym is ∙ e)
