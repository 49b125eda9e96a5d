use Rattle.std.proofs.Common.{rules, ◌↔◌, IsTrue, refl, subst, sym, ◌∙◌}
use Rattle.std.specs.Prelude.{FitsSigned}
use Rattle.std.specs.Int.{w128}
use Rattle.std.proofs.lemmas.Int.{to_z-of_z}
use Rattle.quad_field.specs.Checked.{IsSmall}
use Rattle.quad_field.proofs.SmallProducts.{and_both}
use Rattle.quad_field.proofs.product.are_small_and_whole.Goals as goal

pub returns-then-are_zero : goal.returns-then-are_zero
returns-then-are_zero c =
    let x = c.args.x in
    let y = c.args.y in
    let e : FitsSigned w128 x.a = search rules in
    let f : FitsSigned w128 x.b = search rules in
    let g : FitsSigned w128 y.a = search rules in
    let h : FitsSigned w128 y.b = search rules in
    let none = c.if-are_zero.ensures.0 refl in
    let small = and_both c.is_small.result c.is_small-then-are_zero.result (IsSmall x.a) (IsSmall y.a)
    (subst (λ n. IsTrue c.is_small.result ↔ IsSmall n) (to_z-of_z w128 x.a e) c.is_small.ensures)
    (subst (λ n. IsTrue c.is_small-then-are_zero.result ↔ IsSmall n) (to_z-of_z w128 y.a g) c.is_small-then-are_zero.ensures) in
    (λ t. ((sym (to_z-of_z w128 x.b f) ∙ none.0, sym (to_z-of_z w128 y.b h) ∙ none.1), (small.0 t).0, (small.0 t).1), λ s. small.1 (s.1, s.2))
