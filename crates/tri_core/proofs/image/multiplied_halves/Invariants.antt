use Rattle.std.proofs.Common.{◌≤◌, length, vec_capacity}
use Rattle.plane.specs.Vectors.{scaled_vector}
use Rattle.tri_core.proofs.Changed.{AreChangedTo}
use Rattle.tri_core.proofs.image.multiplied_halves.Given as goal

abbrev pub invariant-loop-half : goal.invariant-loop-half
invariant-loop-half l = record {
  changed : AreChangedTo (scaled_vector l.k) l.halves l.later.items l.half-index;
  room : length l.halves ≤ vec_capacity l.later;
}
