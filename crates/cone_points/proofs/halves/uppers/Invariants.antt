use Rattle.std.proofs.Common.{◌≡◌, ℕ, ◌<◌, false, length, get_or}
use Rattle.std.specs.Prelude.{◌↔◌, IsTrue}
use Rattle.tri_core.specs.HalfEdges.{vector_at}
use Rattle.plane.specs.Halves.{IsUpper}
use Rattle.cone_points.proofs.halves.uppers.Given as goal

abbrev pub invariant-loop-h : goal.invariant-loop-h
invariant-loop-h l = record {
  as_many : length l.uppers.items ≡ l.h;
  tells : (k : ℕ) → k < l.h → IsTrue (get_or l.uppers.items k false) ↔ IsUpper l.f (vector_at l.tri.halves k);
}
