use Rattle.std.proofs.Common.{◌≡◌, subst}
use Rattle.tri_core.specs.HalfEdges.{half_at, next_of}
use Rattle.canon_code.specs.declared.coordinates.Frame.{Frame}
use Rattle.canon_code.specs.WholeFrames.{IsFrameOf}
use Rattle.canon_code.proofs.Coordinated.{vec_read}
use Rattle.canon_code.proofs.Results.{if_some}
use Rattle.canon_code.proofs.WholeFrames.{frame_from}
use Rattle.canon_code.proofs.whole.positive_frame.Goals as goal

pub returns-clause-frame : goal.returns-clause-frame
returns-clause-frame c =
    let halves = c.args.tri.now.halves in
    let h = c.args.h in
    let is_e : c.half.result.now.vec ≡ (half_at halves h).vec = vec_read halves h c.half.result.now c.half.ensures in
    let is_g : c.half-2.result.now.vec ≡ (half_at halves (next_of h)).vec =
    subst (λ n. c.half-2.result.now.vec ≡ (half_at halves n).vec) c.next.ensures (vec_read halves c.next.result c.half-2.result.now c.half-2.ensures) in
    let own : IsFrameOf c.args.f.now halves h c.in-Ok.frame =
    frame_from c.args.f.now halves h c.in-Ok.frame c.half.result.now.vec c.half-2.result.now.vec is_e is_g c.in-Ok.ensures.e c.in-Ok.ensures.g c.in-Ok.ensures.norm in
    if_some c.turned.result _ (λ (x : Frame). IsFrameOf c.args.f.now halves h x) c.turned.ensures.frame (λ x go. go halves h own)
