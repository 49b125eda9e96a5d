use Rattle.canon_code.specs.Distinct.{AreKept}
use Rattle.canon_code.proofs.distinct.distinct_of.Given as goal

abbrev pub invariant-loop-k : goal.invariant-loop-k
invariant-loop-k l = AreKept l.tri.halves l.firsts.items l.places.items l.k
