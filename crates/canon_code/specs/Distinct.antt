-- For private contracts alone: half-edges whose vectors differ, and the numbers of these vectors in the frame of a start.
use Rattle.std.specs.Prelude.{◌≡◌, ℕ, ◌+◌, ◌*◌, ◌<◌, ◌≤◌, List, length}
use Rattle.quad_field.specs.declared.quad.Quad.{Quad}
use Rattle.tri_core.specs.declared.half.Half.{Half}
use Rattle.tri_core.specs.HalfEdges.{vector_at}
use Rattle.canon_code.specs.declared.whole.Scaled.{Scaled}
use Rattle.canon_code.specs.Numbered.{entry}
use Rattle.canon_code.specs.Coordinates.{pair_at}
use Rattle.canon_code.specs.WholeFrames.{IsWhole}

-- each number of the list is that of a half-edge
abbrev pub AreInside : List Half → List ℕ → Type 0
AreInside halves firsts = (i : ℕ) → i < length firsts → entry firsts i < length halves

-- the first k half-edges have places: a place below 9 is that of a half-edge with the same vector
pub record AreKept (halves : List Half) (firsts places : List ℕ) (k : ℕ) : Type 0 where
  pub few : length firsts ≤ 9
  pub as_many : length places ≡ k
  pub inside : AreInside halves firsts
  pub within : (j : ℕ) → j < k → entry places j < 9 → entry places j < length firsts
  pub same : (j : ℕ) → j < k → entry places j < 9 → vector_at halves (entry firsts (entry places j)) ≡ vector_at halves j

-- each half-edge has a place: what stands there, if anything does, has the same vector
pub record AreDistinct (halves : List Half) (firsts places : List ℕ) : Type 0 where
  pub few : length firsts ≤ 9
  pub as_many : length places ≡ length halves
  pub inside : AreInside halves firsts
  pub same : (k : ℕ) → k < length halves → entry places k < length firsts → vector_at halves (entry firsts (entry places k)) ≡ vector_at halves k

-- the numbers over the divisor of the vectors of the first of these half-edges
pub record ArePairs (d : ℕ) (halves : List Half) (start : Scaled) (firsts : List ℕ) (list : List Quad) : Type 0 where
  pub few : length list ≤ 2 * length firsts
  pub whole : (i : ℕ) → 2 * i + 1 < length list → IsWhole d start.frame start.divisor (vector_at halves (entry firsts i)) (pair_at list i)

-- a list that begins with the two numbers that are listed for each of the first k half-edges
pub record AreTaken (places : List ℕ) (list taken : List Quad) (k : ℕ) : Type 0 where
  pub inside : (j : ℕ) → j < k → 2 * entry places j + 1 < length list
  pub same : (j : ℕ) → j < k → pair_at taken j ≡ pair_at list (entry places j)

-- each half-edge has a place: the two numbers there, if there are any, are those of its vector over the divisor
pub record AreListed (d : ℕ) (halves : List Half) (start : Scaled) (places : List ℕ) (list : List Quad) : Type 0 where
  pub as_many : length places ≡ length halves
  pub whole : (k : ℕ) → k < length halves → 2 * entry places k + 1 < length list → IsWhole d start.frame start.divisor (vector_at halves k) (pair_at list (entry places k))
