use Rattle.std.proofs.Common.{arith}
use Rattle.graph_search.proofs.Searches.{reachable-from_search}
use Rattle.graph_search.proofs.search.mark_reachable.Goals as goal

pub returns : goal.returns
returns g c =
    let old = c.loop-next.invariant in
    reachable-from_search (g.G.Graph.node_count c.args.graph.now) (g.G.Graph.neighbours_of c.args.graph.now) _ _ c.loop-next.next (omega arith) old.start old.search old.visited
