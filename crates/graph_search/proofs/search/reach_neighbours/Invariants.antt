use Rattle.std.proofs.Common.{◌≡◌, ℕ, ◌<◌, get_or, vec_capacity}
use Rattle.graph_search.specs.Search.{HasRoom, IsMarked, IsSearch, IsLater}
use Rattle.graph_search.proofs.search.reach_neighbours.Given as goal

abbrev pub invariant-loop-place : goal.invariant-loop-place
invariant-loop-place g l = record {
  search : IsSearch (g.G.Graph.node_count l.graph) (g.G.Graph.neighbours_of l.graph) l.marks l.found.items;
  later : IsLater l.fn.marks l.fn.found.items l.marks l.found.items;
  marked : (k : ℕ) → k < l.place → IsMarked l.marks (get_or (g.G.Graph.neighbours_of l.graph l.node) k 0);
  room : HasRoom l.marks l.found;
  capacity : vec_capacity l.found ≡ vec_capacity l.fn.found;
}
