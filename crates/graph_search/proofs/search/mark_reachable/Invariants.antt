use Rattle.std.proofs.Common.{◌-◌, ◌≤◌, vec_len, vec_capacity}
use Rattle.graph_search.specs.Search.{HasRoom, IsMarked, IsSearch}
use Rattle.graph_search.proofs.Searches.{AreVisited}
use Rattle.graph_search.proofs.search.mark_reachable.Given as goal

abbrev pub invariant-loop-next : goal.invariant-loop-next
invariant-loop-next g l = record {
  search : IsSearch (g.G.Graph.node_count l.graph) (g.G.Graph.neighbours_of l.graph) l.marks l.found.items;
  start : IsMarked l.marks 0;
  visited : AreVisited (g.G.Graph.neighbours_of l.graph) l.marks l.found.items l.next;
  within : l.next ≤ vec_len l.found;
  room : HasRoom l.marks l.found;
}

abbrev pub decreases-loop-next : goal.decreases-loop-next
decreases-loop-next g l = vec_capacity l.found - l.next
