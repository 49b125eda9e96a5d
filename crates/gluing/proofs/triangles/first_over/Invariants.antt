use Rattle.std.proofs.Common.{◌≡◌, ℕ, ◌+◌, ◌<◌, ◌≤◌, take}
use Rattle.gluing.specs.Gluings.{triangle_count}
use Rattle.gluing.specs.Parts.{sides_of}
use Rattle.gluing.proofs.triangles.first_over.Given as goal

abbrev pub invariant-loop-p : goal.invariant-loop-p
invariant-loop-p l = record {
  exact : triangle_count (take l.p (sides_of l.polygons)) ≡ l.count;
  few : l.count ≤ 256;
  before : (k : ℕ) → k < l.p → triangle_count (take (k + 1) (sides_of l.polygons)) ≤ 256;
}
