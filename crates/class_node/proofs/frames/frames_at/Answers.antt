use Rattle.std.proofs.Common.{◌+◌, List, sym, subst}
use Rattle.plane.specs.Matrices.{FieldMatrix}
use Rattle.class_node.proofs.Framed.{AreFramesTo, frames_more}
use Rattle.class_node.proofs.frames.frames_at.Goals as goal

pub loop-i-preserved : goal.loop-i-preserved
loop-i-preserved c =
    subst (λ (l : List FieldMatrix). AreFramesTo c.args.f.now c.args.tri.now.halves c.args.code.now c.args.starts.now l (c.loop-i.i + 1)) (sym c.in_ok-push.ensures.items)
    (frames_more c.args.f.now c.args.tri.now.halves c.args.code.now c.args.starts.now c.loop-i.frames.items c.loop-i.i c.frame_of.result c.loop-i.invariant
    (record { carries = c.frame_of.ensures.frame; lowest = c.frame_of.ensures.lowest }))
