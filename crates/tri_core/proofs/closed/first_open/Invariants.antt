use Rattle.std.proofs.Common.{ℕ, ◌<◌}
use Rattle.tri_core.specs.Triangulation.{IsClosed}
use Rattle.tri_core.proofs.closed.first_open.Given as goal

abbrev pub invariant-loop-t : goal.invariant-loop-t
invariant-loop-t l = (k : ℕ) → k < l.t → IsClosed l.f l.halves k
