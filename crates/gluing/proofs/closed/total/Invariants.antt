use Rattle.std.proofs.Common.{◌≡◌, ◌-◌, ◌*◌, ◌<◌, ◌≤◌, length, drop}
use Rattle.plane.specs.Vectors.{vector}
use Rattle.gluing.specs.Polygons.{vectors, sum_of}
use Rattle.gluing.specs.Bounds.{IsVectorWithin}
use Rattle.gluing.proofs.closed.total.Given as goal

abbrev pub invariant-loop-i : goal.invariant-loop-i
invariant-loop-i l = record {
  inside : l.i ≤ length l.sides;
  long : length l.sides < 18446744073709551616;
  exact : sum_of l.f (drop l.i (vectors l.sides)) ≡ vector l.sum;
  within : IsVectorWithin ((length l.sides - l.i) * 1000000000) (vector l.sum);
}

abbrev pub decreases-loop-i : goal.decreases-loop-i
decreases-loop-i l = l.i
