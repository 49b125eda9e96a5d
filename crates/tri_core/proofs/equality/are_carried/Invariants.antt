use Rattle.std.proofs.Common.{ℕ, ◌≤◌}
use Rattle.tri_core.specs.Walks.{Carries, AreInside}
use Rattle.tri_core.proofs.equality.are_carried.Given as goal

abbrev pub invariant-loop-start : goal.invariant-loop-start
invariant-loop-start l = record {
  inside : AreInside l.images l.two;
  none : (forth : ℕ → ℕ) → Carries l.one l.two forth → l.start ≤ forth 0;
}
