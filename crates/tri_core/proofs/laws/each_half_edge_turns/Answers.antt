use Rattle.tri_core.proofs.Triangles.{triple_at}
use Rattle.tri_core.proofs.laws.each_half_edge_turns.Goals as goal

pub returns : goal.returns
returns c = λ d halves h valid below. let t = triple_at d halves h valid below in (t.closed, t.turns)
