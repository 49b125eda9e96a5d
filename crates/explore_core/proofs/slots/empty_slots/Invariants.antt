use Rattle.std.proofs.Common.{◌≡◌, replicate, None}
use Rattle.explore_core.proofs.slots.empty_slots.Given as goal

abbrev pub invariant-loop-i : goal.invariant-loop-i
invariant-loop-i g l = l.slots.items ≡ replicate l._i None
