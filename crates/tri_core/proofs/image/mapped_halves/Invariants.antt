use Rattle.std.proofs.Common.{◌≤◌, length, vec_capacity}
use Rattle.rings.specs.Matrices.{mapped}
use Rattle.quad_field.specs.Quads.{quad_ops}
use Rattle.plane.specs.Matrices.{rows_of}
use Rattle.tri_core.proofs.Changed.{AreChangedTo}
use Rattle.tri_core.proofs.image.mapped_halves.Given as goal

abbrev pub invariant-loop-half : goal.invariant-loop-half
invariant-loop-half l = record {
  changed : AreChangedTo (mapped (quad_ops l.f) (rows_of l.n)) l.halves l.later.items l.half-index;
  room : length l.halves ≤ vec_capacity l.later;
}
