use Rattle.std.proofs.Common.{◌≡◌, ℕ, ◌<◌}
use Rattle.gluing.specs.Polygons.{vectors, corner, zero_of}
use Rattle.gluing.proofs.corners.is_flat.Given as goal

abbrev pub invariant-loop-i : goal.invariant-loop-i
invariant-loop-i l = (k : ℕ) → k < l.i → corner l.f (vectors l.sides) k ≡ zero_of l.f
