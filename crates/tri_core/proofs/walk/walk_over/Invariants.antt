use Rattle.std.proofs.Common.{◌-◌, ◌≤◌, vec_len, vec_capacity}
use Rattle.graph_search.specs.Search.{IsMarked, HasRoom}
use Rattle.tri_core.specs.Walks.{IsWalkSoFar}
use Rattle.tri_core.proofs.Walks.{AreAcross}
use Rattle.tri_core.proofs.walk.walk_over.Given as goal

abbrev pub invariant-loop-next : goal.invariant-loop-next
invariant-loop-next l = record {
  walk : IsWalkSoFar l.halves l.entered l.walk.items;
  start : IsMarked l.entered 0;
  across : AreAcross l.halves l.entered l.walk.items l.next;
  within : l.next ≤ vec_len l.walk;
  room : HasRoom l.entered l.walk;
}

abbrev pub decreases-loop-next : goal.decreases-loop-next
decreases-loop-next l = vec_capacity l.walk - l.next
