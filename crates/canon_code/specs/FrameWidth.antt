-- When the frame formula of a start is wide.
use Rattle.std.specs.Prelude.{ℕ, pos, ◌<◌, ◌<ℤ◌, List, length}
use Rattle.quad_field.specs.Width.{Term, product, negation, conjugate, term_ops, value_of, StepsFit}
use Rattle.plane.specs.Vectors.{det, vector_term}
use Rattle.tri_core.specs.declared.half.Half.{Half}
use Rattle.tri_core.specs.HalfEdges.{half_at, next_of}

-- δ = det(e, g) for the vector e of h and the next, g
abbrev pub frame_determinant : List Half → ℕ → Term
frame_determinant halves h = det term_ops (vector_term (half_at halves h).vec) (vector_term (half_at halves (next_of h)).vec)

-- its product with its conjugate
abbrev pub frame_norm : List Half → ℕ → Term
frame_norm halves h = product (frame_determinant halves h) (conjugate (frame_determinant halves h))

-- det(v, g) and det(e, v) times the conjugate, for the vector v of half-edge k
abbrev pub first_number : List Half → ℕ → ℕ → Term
first_number halves h k = product (det term_ops (vector_term (half_at halves k).vec) (vector_term (half_at halves (next_of h)).vec)) (conjugate (frame_determinant halves h))

abbrev pub second_number : List Half → ℕ → ℕ → Term
second_number halves h k = product (det term_ops (vector_term (half_at halves h).vec) (vector_term (half_at halves k).vec)) (conjugate (frame_determinant halves h))

-- no step of these lies outside i128, nor, where the norm is negative, of their negatives
pub record FrameFits (d : ℕ) (halves : List Half) (h : ℕ) : Type 0 where
  pub norm : StepsFit d (frame_norm halves h)
  pub numbers : (k : ℕ) → k < length halves → StepsFit d (first_number halves h k) × StepsFit d (second_number halves h k)
  pub negative : (value_of d (frame_norm halves h)).a <ℤ pos 0
      → StepsFit d (negation (frame_norm halves h)) × ((k : ℕ) → k < length halves → StepsFit d (negation (first_number halves h k)) × StepsFit d (negation (second_number halves h k)))

-- the frame formula is wide at some start
abbrev pub HasWideFrame : ℕ → List Half → Type 0
HasWideFrame d halves = (h : ℕ) × (h < length halves) × ¬ (FrameFits d halves h)
