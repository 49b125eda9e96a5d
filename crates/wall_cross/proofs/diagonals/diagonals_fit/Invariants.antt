use Rattle.std.proofs.Common.{ℕ, ◌<◌}
use Rattle.std.specs.Prelude.{slice_index}
use Rattle.tri_core.specs.Flips.{DiagonalFits}
use Rattle.wall_cross.proofs.diagonals.diagonals_fit.Given as goal

abbrev pub invariant-loop-i : goal.invariant-loop-i
invariant-loop-i l = (k : ℕ) → k < l.i → DiagonalFits l.tri.field l.tri.halves (slice_index l.edges k)
