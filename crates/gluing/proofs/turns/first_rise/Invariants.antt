use Rattle.std.proofs.Common.{ℕ, ◌<◌, ◌≤◌}
use Rattle.gluing.specs.Polygons.{vectors, Rises}
use Rattle.gluing.proofs.turns.first_rise.Given as goal

abbrev pub invariant-loop-i : goal.invariant-loop-i
invariant-loop-i l = (k : ℕ) → l.fn.from ≤ k → k < l.i → ¬ (Rises l.f (vectors l.sides) k)
