use Rattle.canon_code.specs.WholeFrames.{IsDivisorOf}
use Rattle.canon_code.proofs.whole.divisor_of.Given as goal

abbrev pub invariant-loop-k : goal.invariant-loop-k
invariant-loop-k l = IsDivisorOf l.f l.tri.halves l.h l.frame.norm l.divisor
