-- Breadth-first numberings of the half-edges of a triangulation.
use Rattle.std.specs.Prelude.{◌≡◌, ℕ, ◌*◌, ◌<◌, List, length}
use Rattle.tri_core.specs.declared.half.Half.{Half}
use Rattle.tri_core.specs.HalfEdges.{twin_at, next_of}
use Rattle.tri_core.specs.Triangulation.{IsTriangle}
use Rattle.tri_core.specs.Images.{AreInverse}

-- triangle t is found from k, of the new numbers: k is the first half-edge whose twin isn't in a triangle before t, and its twin is the first half-edge of t
pub record IsFoundFrom (halves : List Half) (place number : ℕ → ℕ) (t k : ℕ) : Type 0 where
  pub before : k < 3 * t
  pub twin : twin_at halves (place k) ≡ place (3 * t)
  pub first : (j : ℕ) → j < k → number (twin_at halves (place j)) < 3 * t

-- breadth first from h: `place k` is the half-edge of new number k, `number` the way back
pub record IsNumbering (halves : List Half) (h : ℕ) (place number : ℕ → ℕ) : Type 0 where
  pub each_once : AreInverse (length halves) place number
  pub start : place 0 ≡ h
  pub next : (k : ℕ) → k < length halves → place (next_of k) ≡ next_of (place k)
  pub found : (t : ℕ) → 0 < t → IsTriangle halves t → (k : ℕ) × IsFoundFrom halves place number t k
