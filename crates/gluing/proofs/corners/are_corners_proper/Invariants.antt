use Rattle.std.proofs.Common.{ℕ, ◌<◌}
use Rattle.gluing.specs.Polygons.{vectors}
use Rattle.gluing.specs.Bounds.{IsCornerProper}
use Rattle.gluing.proofs.corners.are_corners_proper.Given as goal

abbrev pub invariant-loop-i : goal.invariant-loop-i
invariant-loop-i l = (k : ℕ) → k < l.i → IsCornerProper l.f (vectors l.sides) k
