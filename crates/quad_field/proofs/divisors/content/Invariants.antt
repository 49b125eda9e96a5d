use Rattle.quad_field.proofs.Contents.{IsContentTo}
use Rattle.quad_field.proofs.divisors.content.Given as goal

abbrev pub invariant-loop-x : goal.invariant-loop-x
invariant-loop-x l = IsContentTo l.list l.x-index l.g
