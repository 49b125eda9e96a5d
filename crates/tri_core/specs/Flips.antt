-- The flip of a triangulation at an edge: the other diagonal of its quadrilateral in place of the edge.
use Rattle.std.specs.Prelude.{◌≡◌, ◌⊎◌, ℕ, ◌%◌, ◌<◌, ◌==◌, if◌then◌else◌, List, length}
use Rattle.quad_field.specs.Quads.{quad_ops}
use Rattle.quad_field.specs.Width.{term_ops}
use Rattle.plane.specs.Vectors.{vector_sum, opposite_vector, vector_term, VectorFits}
use Rattle.tri_core.specs.declared.half.Half.{Half}
use Rattle.tri_core.specs.HalfEdges.{half_at, vector_at, twin_at, triangle_of, next_of, previous_of}
use Rattle.tri_core.specs.Triangulation.{TurnsInto}

-- h is the name of an edge: a half-edge less than its twin
abbrev pub IsEdge : List Half → ℕ → Type 0
IsEdge halves h = (h < length halves) × (h < twin_at halves h)

-- the half-edges behind the twin of h
abbrev pub next_of_twin : List Half → ℕ → ℕ
next_of_twin halves h = next_of (twin_at halves h)

abbrev pub previous_of_twin : List Half → ℕ → ℕ
previous_of_twin halves h = previous_of (twin_at halves h)

-- k is an outer side of the quadrilateral of h and g
abbrev pub IsOuter : ℕ → ℕ → ℕ → Type 0
IsOuter h g k = (k ≡ next_of h) ⊎ (k ≡ previous_of h) ⊎ (k ≡ next_of g) ⊎ (k ≡ previous_of g)

-- h and g are half-edges of two triangles, of which a list has whole ones
pub record AreApart (halves : List Half) (h g : ℕ) : Type 0 where
  pub count : length halves % 3 ≡ 0
  pub first : h < length halves
  pub second : g < length halves
  pub apart : ¬ (triangle_of h ≡ triangle_of g)

-- the two triangles at h form a strictly convex quadrilateral: its four sides in order, each turning to the left into the next
pub record IsStrictlyConvex (d : ℕ) (halves : List Half) (h : ℕ) : Type 0 where
  pub first : TurnsInto d halves (next_of h) (previous_of h)
  pub second : TurnsInto d halves (previous_of h) (next_of_twin halves h)
  pub third : TurnsInto d halves (next_of_twin halves h) (previous_of_twin halves h)
  pub fourth : TurnsInto d halves (previous_of_twin halves h) (next_of h)

-- the number that half-edge k has after the flip at h with the twin g: each outer side moves on by one round the quadrilateral
abbrev pub number_after : ℕ → ℕ → ℕ → ℕ
number_after h g k =
    if k == next_of h then previous_of h
    else if k == previous_of h then next_of g
    else if k == next_of g then previous_of g
    else if k == previous_of g then next_of h
    else k

-- `later` are the half-edges after the flip at h: the other diagonal in place of h and its twin, all other vectors and all pairs kept
pub record IsFlip (d : ℕ) (halves : List Half) (h : ℕ) (later : List Half) : Type 0 where
  pub count : length later ≡ length halves
  pub diagonal : vector_at later h
      ≡ opposite_vector (quad_ops d) (vector_sum (quad_ops d) (vector_at halves (previous_of_twin halves h)) (vector_at halves (next_of h)))
  pub opposite : vector_at later (twin_at halves h) ≡ opposite_vector (quad_ops d) (vector_at later h)
  pub vectors : (k : ℕ) → k < length halves → ¬ (k ≡ h) → ¬ (k ≡ twin_at halves h)
      → vector_at later (number_after h (twin_at halves h) k) ≡ vector_at halves k
  pub twins : (k : ℕ) → k < length halves → twin_at later (number_after h (twin_at halves h) k) ≡ number_after h (twin_at halves h) (twin_at halves k)

-- no step of the new diagonal, or of its opposite, lies outside i128
abbrev pub DiagonalFits : ℕ → List Half → ℕ → Type 0
DiagonalFits d halves h =
    let diagonal = vector_sum term_ops (vector_term (half_at halves (previous_of_twin halves h)).vec) (vector_term (half_at halves (next_of h)).vec) in
    VectorFits d diagonal × VectorFits d (opposite_vector term_ops diagonal)
