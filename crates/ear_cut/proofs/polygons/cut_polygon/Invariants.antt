use Rattle.std.proofs.Common.{ℕ, ◌+◌, ◌*◌, ◌/◌, ◌<◌, ◌≤◌, vec_len}
use Rattle.ear_cut.specs.Cuttings.{IsEar, vectors_of}
use Rattle.ear_cut.specs.Cuttable.{IsCuttable}
use Rattle.ear_cut.specs.Steps.{seen, AreSmall}
use Rattle.ear_cut.proofs.Steps.{IsCutTo}
use Rattle.ear_cut.proofs.polygons.cut_polygon.Given as goal

abbrev pub invariant-loop-sides : goal.invariant-loop-sides
invariant-loop-sides l = record {
  long : 3 ≤ vec_len l.sides;
  small : AreSmall (vectors_of (seen l.sides.items));
  cuttable : IsCuttable l.f (vectors_of (seen l.sides.items));
  passed : (k : ℕ) → k < l.first → ¬ (IsEar l.f (vectors_of (seen l.sides.items)) k);
  few : vec_len l.edges + 3 * vec_len l.sides ≤ 774;
  so_far : IsCutTo l.f (vec_len l.fn.edges / 3) (seen l.fn.sides.items) (seen l.fn.edges.items) (seen l.edges.items) (seen l.sides.items);
}

abbrev pub decreases-loop-sides : goal.decreases-loop-sides
decreases-loop-sides l = vec_len l.sides
