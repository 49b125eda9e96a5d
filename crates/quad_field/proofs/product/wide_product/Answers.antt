use mathlib.Core.Path.{subst₂}
use Rattle.std.proofs.Common.{to_z, of_z}
use Rattle.std.specs.Prelude.{ℤ, Err}
use Rattle.std.specs.Int.{w128}
use Rattle.quad_field.specs.Checked.{IsExactProduct}
use Rattle.quad_field.specs.Quads.{quad}
use Rattle.quad_field.specs.declared.quad.Quad.{Quad}
use Rattle.quad_field.specs.declared.quad.TooWide.{TooWide}
use Rattle.quad_field.proofs.Checked.{parts_read, whole_is_wide, root_is_wide}
use Rattle.quad_field.proofs.product.wide_product.Goals as goal

-- what is read of two parts
abbrev read : ℤ → ℤ → Quad
read a b = quad (to_z w128 (of_z w128 a)) (to_z w128 (of_z w128 b))

pub returns-in-Err-root_part : goal.returns-in-Err-root_part
returns-in-Err-root_part c =
    let n = c.args in
    let f = c.ranges in
    let none : TooWide = c.in-Err-root_part.field-0 in
    subst₂ (λ (x y : Quad). IsExactProduct n.d x y (Err none)) (parts_read n.a n.b f.a f.b) (parts_read n.c n.e f.c f.e)
    (root_is_wide n.d (read n.a n.b) (read n.c n.e) none none c.in-Err-root_part.ensures)

pub returns-in-Err : goal.returns-in-Err
returns-in-Err c =
    let n = c.args in
    let f = c.ranges in
    let none : TooWide = c.in-Err.field-0 in
    subst₂ (λ (x y : Quad). IsExactProduct n.d x y (Err none)) (parts_read n.a n.b f.a f.b) (parts_read n.c n.e f.c f.e)
    (whole_is_wide n.d (read n.a n.b) (read n.c n.e) none none c.in-Err.ensures)
