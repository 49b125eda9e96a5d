use Rattle.std.proofs.Common.{◌≡◌, subst}
use mathlib.Core.Path.{subst₂}
use Rattle.std.proofs.lemmas.Int.{to_z-of_z}
use Rattle.std.specs.Int.{w128}
use Rattle.plane.specs.declared.vec2.Vec2.{Vec2}
use Rattle.plane.specs.Matrices.{IsReducedTo}
use Rattle.tri_core.specs.HalfEdges.{half_at, next_of}
use Rattle.canon_code.proofs.Coordinated.{vec_read}
use Rattle.canon_code.proofs.canon.frame_at.Goals as goal

pub returns : goal.returns
returns c =
    let halves = c.args.tri.now.halves in
    let is_e : c.half.result.now.vec ≡ (half_at halves c.args.h).vec = vec_read halves c.args.h c.half.result.now c.half.ensures in
    let is_g : c.half-2.result.now.vec ≡ (half_at halves (next_of c.args.h)).vec =
    subst (λ n. c.half-2.result.now.vec ≡ (half_at halves n).vec) c.next.ensures (vec_read halves c.next.result c.half-2.result.now c.half-2.ensures) in
    subst₂ (λ (x y : Vec2). IsReducedTo (x.s, y.s, x.t, y.t) c.args.scale c.reduced.result) is_e is_g
    (subst (λ m. IsReducedTo (c.half.result.now.vec.s, c.half-2.result.now.vec.s, c.half.result.now.vec.t, c.half-2.result.now.vec.t) m c.reduced.result) (to_z-of_z w128 c.args.scale c.ranges.scale) c.reduced.ensures.value)
