use Rattle.std.proofs.Common.{ℕ, vec_len}
use Rattle.terrain.specs.Places.{IsAt}
use Rattle.wall_steal.specs.Cells.{cell_of}
use Rattle.explore_shared.specs.Workers.{EndsWell}
use Rattle.explore_shared.proofs.run.best_of.Given as goal

abbrev pub invariant-loop-end : goal.invariant-loop-end
invariant-loop-end g l = record {
  best : EndsWell g.N.Naming.count (cell_of l.halt) l.best;
  each : (i : ℕ) (e : _) → IsAt l.ends.items i e → EndsWell g.N.Naming.count (cell_of l.halt) e;
}

abbrev pub decreases-loop-end : goal.decreases-loop-end
decreases-loop-end g l = vec_len l.ends
