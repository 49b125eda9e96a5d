-- Several flips: one after another, and at once at all members of a set of half-edges.
use Rattle.std.specs.Prelude.{◌≡◌, ℕ, zero, suc, ◌<◌, ◌==◌, ◌||◌, Bool, true, false, if◌then◌else◌, List, length, slice_index}
use Rattle.quad_field.specs.Quads.{quad_ops}
use Rattle.plane.specs.Vectors.{vector_sum, opposite_vector}
use Rattle.tri_core.specs.declared.half.Half.{Half}
use Rattle.tri_core.specs.HalfEdges.{vector_at, twin_at, next_of, previous_of}
use Rattle.tri_core.specs.Flips.{IsFlip, previous_of_twin}

-- `later` comes of `halves` by flips at the first n edges of a list, in their order
abbrev pub AfterFirst : ℕ → List ℕ → ℕ → List Half → List Half → Type 0
AfterFirst d edges zero halves later = later ≡ halves
AfterFirst d edges (suc n) halves later =
    (between : List Half) × AfterFirst d edges n halves between × IsFlip d between (slice_index edges n) later

-- half-edge k is h or g
abbrev pub is_either : ℕ → ℕ → ℕ → Bool
is_either h g k = (k == h) || (k == g)

-- half-edge k is one of the first n of a list, or the twin of one
abbrev pub is_among : List Half → List ℕ → ℕ → ℕ → Bool
is_among halves edges zero k = false
is_among halves edges (suc n) k = is_among halves edges n k || is_either (slice_index edges n) (twin_at halves (slice_index edges n)) k

-- a set of half-edges that can be flipped at once: it holds the twin of each member, and of each triangle one side at most
pub record IsSpread (halves : List Half) (set : ℕ → Bool) : Type 0 where
  pub twin : (k : ℕ) → k < length halves → set (twin_at halves k) ≡ set k
  pub after : (k : ℕ) → k < length halves → set k ≡ true → set (next_of k) ≡ false
  pub before : (k : ℕ) → k < length halves → set k ≡ true → set (previous_of k) ≡ false

-- the number that half-edge k has after the flips at all members of a set: the side after a member moves on by one, and the side before
-- a member goes into the member's other triangle
abbrev pub number_after_all : List Half → (ℕ → Bool) → ℕ → ℕ
number_after_all halves set k =
    if set (previous_of k) then next_of k
    else if set (next_of k) then next_of (twin_at halves (next_of k))
    else k

-- `later` are the half-edges after the flips at all members of a set, whatever their order: each member is the other diagonal of its
-- quadrilateral, all other vectors and all pairs are kept
pub record AreFlipped (d : ℕ) (halves : List Half) (set : ℕ → Bool) (later : List Half) : Type 0 where
  pub count : length later ≡ length halves
  pub diagonals : (k : ℕ) → k < length halves → set k ≡ true
      → vector_at later k ≡ opposite_vector (quad_ops d) (vector_sum (quad_ops d) (vector_at halves (previous_of_twin halves k)) (vector_at halves (next_of k)))
  pub vectors : (k : ℕ) → k < length halves → set k ≡ false → vector_at later (number_after_all halves set k) ≡ vector_at halves k
  pub twins : (k : ℕ) → k < length halves → twin_at later (number_after_all halves set k) ≡ number_after_all halves set (twin_at halves k)
