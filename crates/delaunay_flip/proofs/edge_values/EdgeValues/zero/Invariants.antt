use Rattle.std.proofs.Common.{◌≡◌, ℕ, ◌<◌}
use Rattle.tri_core.specs.Flips.{IsEdge}
use Rattle.delaunay_flip.specs.Tables.{entry}
use Rattle.delaunay_flip.specs.declared.edge_values.TheConstants.{ZERO}
use Rattle.delaunay_flip.proofs.edge_values.EdgeValues.zero.Given as goal

abbrev pub invariant-loop-h : goal.invariant-loop-h
invariant-loop-h l = (k : ℕ) → k < l.h → ¬ (IsEdge l.tri.halves k × (entry l.self k ≡ ZERO))
