use Rattle.std.proofs.Common.{ℕ, ◌<◌}
use Rattle.tri_core.specs.Triangulation.{IsPaired}
use Rattle.tri_core.proofs.paired.first_unpaired.Given as goal

abbrev pub invariant-loop-h : goal.invariant-loop-h
invariant-loop-h l = (k : ℕ) → k < l.h → IsPaired l.f l.halves k
