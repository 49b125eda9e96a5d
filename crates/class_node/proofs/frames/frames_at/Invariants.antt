use Rattle.class_node.proofs.Framed.{AreFramesTo}
use Rattle.class_node.proofs.frames.frames_at.Given as goal

abbrev pub invariant-loop-i : goal.invariant-loop-i
invariant-loop-i l = AreFramesTo l.f l.tri.halves l.code l.starts l.frames.items l.i
