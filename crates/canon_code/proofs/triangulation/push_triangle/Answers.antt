use Rattle.std.proofs.Common.{◌+◌, ◌*◌, ℕ, List, arith, sym, ◌∙◌}
use Rattle.std.specs.Prelude.{ℤ}
use mathlib.Core.Path.{ap₂}
use Rattle.quad_field.specs.declared.quad.Quad.{Quad}
use Rattle.quad_field.specs.Quads.{quad_ops}
use Rattle.plane.specs.Vectors.{Vector, vector_sum, opposite_vector}
use Rattle.canon_code.proofs.Listings.{half_by, made, three_pushed}
use Rattle.canon_code.proofs.triangulation.push_triangle.Goals as goal

pub returns-clause-halves : goal.returns-clause-halves
returns-clause-halves c =
    let numbers : List ℤ = c.args.numbers.now in
    let t : ℕ = c.args.t in
    three_pushed numbers t c.args.halves.now.items c.push.new.self.items c.push-2.new.self.items c.push-3.new.self.items _ _ _
    (made c.vector_at-u.result c.in-Some.twins.first _ _ c.vector_at-u.ensures c.in-Some.ensures.first ∙ sym (half_by numbers (3 * t) t 0 (omega arith) (omega arith)))
    (made c.vector_at-v.result c.in-Some.twins.second _ _ c.vector_at-v.ensures c.in-Some.ensures.second ∙ sym (half_by numbers (3 * t + 1) t 1 (omega arith) (omega arith)))
    (made c.in-Some-third_vector.w c.in-Some.twins.third _ _ (c.in-Some-third_vector.ensures.some ∙ ap₂ (λ (x y : Vector Quad). opposite_vector (quad_ops 0) (vector_sum (quad_ops 0) x y)) c.vector_at-u.ensures c.vector_at-v.ensures) c.in-Some.ensures.third ∙ sym (half_by numbers (3 * t + 2) t 2 (omega arith) (omega arith)))
    c.in_ok-push.ensures.items c.in_ok-push-2.ensures.items c.in_ok-push-3.ensures.items
