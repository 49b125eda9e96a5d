use Rattle.std.proofs.Common.{◌≡◌, ◌↔◌, ◌∙◌, IsTrue, sym}
use mathlib.Core.Path.{subst₂}
use Rattle.quad_field.specs.Quads.{quad_ops}
use Rattle.quad_field.specs.declared.quad.Quad.{Quad}
use Rattle.plane.specs.Vectors.{Vector, vector_sum}
use Rattle.gluing.specs.Polygons.{no_vector}
use Rattle.gluing.proofs.lines.is_opposite.Goals as goal

pub returns : goal.returns
returns c =
    subst₂ (λ (u v : Vector Quad). IsTrue c.is_zero.result ↔ (vector_sum (quad_ops c.args.f.now) u v ≡ no_vector c.args.f.now))
    (sym (c.side_of.ensures.value c.args.f.now)) (sym (c.side_of-2.ensures.value c.args.f.now))
    ((λ yes. sym c.add-sum.ensures ∙ c.is_zero.ensures.0 yes), (λ e. c.is_zero.ensures.1 (c.add-sum.ensures ∙ e)))
