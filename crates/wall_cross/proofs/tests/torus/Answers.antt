use Rattle.std.proofs.Common.{◌≡◌, ◌∙◌, ℕ, List, [], ◌∷◌, sym, subst}
use Rattle.quad_field.specs.FieldNumber.{IsFieldNumber}
use Rattle.tri_core.specs.declared.half.Half.{Half}
use Rattle.tri_core.specs.Triangulation.{Triangulation}
use Rattle.hinge_form.specs.Walls.{IsWall}
use Rattle.wall_cross.proofs.SquareTorus.{torus, upright, torus_wall}
use Rattle.wall_cross.proofs.tests.torus.Goals as goal

pub returns-clause-wall : goal.returns-clause-wall
returns-clause-wall c =
    let two : IsFieldNumber 2 = subst IsFieldNumber c.requires c.number.ensures.valid in
    let items : c.in_ok-halves.halves.items ≡ torus =
    c.in_ok-halves.ensures.items ∙ (λ i. c.half.ensures i ∷ c.half-2.ensures i ∷ c.half-3.ensures i ∷ c.half-4.ensures i ∷ c.half-5.ensures i ∷ c.half-6.ensures i ∷ []) in
    subst (λ (t : Triangulation). IsWall t.field t.halves upright (2 ∷ [])) (sym c.in_ok-make.ensures.made)
    (subst (λ (halves : List Half). IsWall c.args.f.now halves upright (2 ∷ [])) (sym items)
    (subst (λ (d : ℕ). IsWall d torus upright (2 ∷ [])) (sym c.requires) (torus_wall two)))
