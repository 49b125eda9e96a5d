use Rattle.std.proofs.Common.{◌≡◌, ℕ}
use Rattle.tri_core.specs.Walks.{Carries, AreInside, AgreeBefore}
use Rattle.tri_core.proofs.equality.carry.Given as goal

abbrev pub invariant-loop-i : goal.invariant-loop-i
invariant-loop-i l = record {
  inside : AreInside l.images l.two;
  agree : (forth : ℕ → ℕ) → Carries l.one l.two forth → forth 0 ≡ l.start → AgreeBefore l.one l.walk l.i forth l.images;
}
