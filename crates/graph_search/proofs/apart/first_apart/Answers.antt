use Rattle.std.proofs.Common.{arith}
use Rattle.graph_search.proofs.Searches.{first_apart-from_marks}
use Rattle.graph_search.proofs.apart.first_apart.Goals as goal

pub returns : goal.returns
returns g c =
    first_apart-from_marks (g.G.Graph.node_count c.args.graph.now) (g.G.Graph.neighbours_of c.args.graph.now) c.mark_reachable.new.marks c.first_unmarked.result
    (omega (arith, c.mark_reachable.auto.marks, c.as_mut_slice-marks.ensures.len, c.in_ok-unmarked.ensures.len, c.nodes-count.ensures)) c.mark_reachable.ensures c.first_unmarked.ensures
