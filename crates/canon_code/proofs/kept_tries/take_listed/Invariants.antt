use Rattle.canon_code.specs.Distinct.{AreTaken}
use Rattle.canon_code.proofs.kept_tries.take_listed.Given as goal

abbrev pub invariant-loop-k : goal.invariant-loop-k
invariant-loop-k l = AreTaken l.places l.list l.taken l.k
