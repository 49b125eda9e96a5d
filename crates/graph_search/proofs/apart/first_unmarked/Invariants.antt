use Rattle.std.proofs.Common.{ℕ, ◌<◌}
use Rattle.graph_search.specs.Search.{IsMarked}
use Rattle.graph_search.proofs.apart.first_unmarked.Given as goal

abbrev pub invariant-loop-t : goal.invariant-loop-t
invariant-loop-t l = (k : ℕ) → k < l.t → IsMarked l.marks k
