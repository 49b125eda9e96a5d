use Rattle.std.proofs.Common.{rules}
use mathlib.Core.Path.{subst₂}
use Rattle.std.specs.Prelude.{Ok, Err}
use Rattle.quad_field.specs.Checked.{IsExactProduct}
use Rattle.quad_field.specs.Width.{FitsI128}
use Rattle.quad_field.specs.declared.quad.Quad.{Quad}
use Rattle.quad_field.proofs.Checked.{parts_read}
use Rattle.quad_field.proofs.product.long_way.Goals as goal

pub returns-in-Ok : goal.returns-in-Ok
returns-in-Ok c =
    let x = c.args.x in
    let y = c.args.y in
    let e : FitsI128 x.a = search rules in
    let f : FitsI128 x.b = search rules in
    let g : FitsI128 y.a = search rules in
    let h : FitsI128 y.b = search rules in
    subst₂ (λ (u v : Quad). IsExactProduct c.args.d u v (Ok c.in-Ok.z)) (parts_read x.a x.b e f) (parts_read y.a y.b g h) c.in-Ok.ensures

pub returns-in-Err : goal.returns-in-Err
returns-in-Err c =
    let x = c.args.x in
    let y = c.args.y in
    let e : FitsI128 x.a = search rules in
    let f : FitsI128 x.b = search rules in
    let g : FitsI128 y.a = search rules in
    let h : FitsI128 y.b = search rules in
    subst₂ (λ (u v : Quad). IsExactProduct c.args.d u v (Err c.in-Err.field-0)) (parts_read x.a x.b e f) (parts_read y.a y.b g h) c.in-Err.ensures
