use Rattle.std.proofs.Common.{◌≡◌, ◌<◌, ℕ, length}
use Rattle.canon_code.specs.Numbered.{entry}
use Rattle.canon_code.proofs.orbits.Orbits.alone.Given as goal

abbrev pub invariant-loop-k : goal.invariant-loop-k
invariant-loop-k l = (length l.links.items ≡ l.k) × ((i : ℕ) → i < l.k → entry l.links.items i ≡ i)
