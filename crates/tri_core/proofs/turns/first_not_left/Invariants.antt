use Rattle.std.proofs.Common.{ℕ, ◌+◌, ◌*◌, ◌<◌}
use Rattle.tri_core.specs.Triangulation.{TurnsInto}
use Rattle.tri_core.proofs.turns.first_not_left.Given as goal

abbrev pub invariant-loop-t : goal.invariant-loop-t
invariant-loop-t l = (k : ℕ) → k < l.t → TurnsInto l.f l.halves (3 * k) (3 * k + 1)
