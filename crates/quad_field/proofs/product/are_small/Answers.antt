use Rattle.std.proofs.Common.{rules, ◌↔◌, IsTrue, subst}
use Rattle.std.specs.Prelude.{FitsSigned}
use Rattle.std.specs.Int.{w128}
use Rattle.std.proofs.lemmas.Int.{to_z-of_z}
use Rattle.quad_field.specs.Checked.{IsSmall}
use Rattle.quad_field.proofs.SmallProducts.{all_four}
use Rattle.quad_field.proofs.product.are_small.Goals as goal

pub returns : goal.returns
returns c =
    let x = c.args.x in
    let y = c.args.y in
    let e : FitsSigned w128 x.a = search rules in
    let f : FitsSigned w128 x.b = search rules in
    let g : FitsSigned w128 y.a = search rules in
    let h : FitsSigned w128 y.b = search rules in
    all_four c.is_small.result c.is_small-2.result c.is_small-3.result c.is_small-4.result (IsSmall x.a) (IsSmall x.b) (IsSmall y.a) (IsSmall y.b)
    (subst (λ n. IsTrue c.is_small.result ↔ IsSmall n) (to_z-of_z w128 x.a e) c.is_small.ensures)
    (subst (λ n. IsTrue c.is_small-2.result ↔ IsSmall n) (to_z-of_z w128 x.b f) c.is_small-2.ensures)
    (subst (λ n. IsTrue c.is_small-3.result ↔ IsSmall n) (to_z-of_z w128 y.a g) c.is_small-3.ensures)
    (subst (λ n. IsTrue c.is_small-4.result ↔ IsSmall n) (to_z-of_z w128 y.b h) c.is_small-4.ensures)
