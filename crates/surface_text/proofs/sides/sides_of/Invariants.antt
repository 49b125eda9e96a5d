use Rattle.std.proofs.Common.{length}
use Rattle.surface_text.proofs.Runs.{SidesSoFar}
use Rattle.surface_text.proofs.sides.sides_of.Given as goal

abbrev pub invariant-sides : goal.invariant-sides
invariant-sides l = SidesSoFar l.tail l.sides.items l.all_bounded l.rest

abbrev pub decreases-sides : goal.decreases-sides
decreases-sides l = length l.rest
