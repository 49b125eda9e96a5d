use Rattle.std.proofs.Common.{ℕ, ◌<◌, ◌/◌}
use Rattle.delaunay_flip.specs.Words.{Holds}
use Rattle.delaunay_flip.proofs.edge_set.EdgeSet.least.Given as goal

abbrev pub invariant-loop-i : goal.invariant-loop-i
invariant-loop-i l = (k : ℕ) → k / 64 < l.i → ¬ (Holds l.self.words k)
