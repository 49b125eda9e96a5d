use Rattle.quad_field.proofs.Contents.{IsDividedTo}
use Rattle.quad_field.proofs.divisors.divide_all.Given as goal

abbrev pub invariant-loop-x : goal.invariant-loop-x
invariant-loop-x l = IsDividedTo l.g l.fn.nums l.nums l.x-index
