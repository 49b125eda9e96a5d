use Rattle.std.proofs.Common.{length}
use Rattle.canon_code.proofs.TextReadings.{IsReadTo}
use Rattle.canon_code.proofs.text.numbers_of.Given as goal

abbrev pub invariant-numbers : goal.invariant-numbers
invariant-numbers l = IsReadTo l.text l.numbers.items l.rest

abbrev pub decreases-numbers : goal.decreases-numbers
decreases-numbers l = length l.rest
