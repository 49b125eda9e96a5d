-- Half-edges with all their vectors changed by one rule, and the width of such changes.
use Rattle.std.specs.Prelude.{◌≡◌, ℕ, ℤ, ◌<◌, List, length}
use Rattle.rings.specs.Matrices.{Matrix, mapped}
use Rattle.quad_field.specs.declared.quad.Quad.{Quad}
use Rattle.quad_field.specs.Quads.{quad_ops}
use Rattle.quad_field.specs.Width.{term_ops}
use Rattle.plane.specs.Vectors.{Vector, vector_term, matrix_term, scaled_vector, scaled_term, VectorFits}
use Rattle.tri_core.specs.declared.half.Half.{Half}
use Rattle.tri_core.specs.HalfEdges.{half_at, vector_at, twin_at}

-- `later` are the half-edges with `change v` in place of every vector v, and the same twins
pub record AreChanged (change : Vector Quad → Vector Quad) (halves later : List Half) : Type 0 where
  pub count : length later ≡ length halves
  pub vectors : (k : ℕ) → k < length halves → vector_at later k ≡ change (vector_at halves k)
  pub twins : (k : ℕ) → k < length halves → twin_at later k ≡ twin_at halves k

-- every vector v is mapped to n·v
abbrev pub AreMapped : ℕ → Matrix Quad → List Half → List Half → Type 0
AreMapped d n halves later = AreChanged (mapped (quad_ops d) n) halves later

-- every vector v is multiplied by the whole number k
abbrev pub AreMultiplied : ℤ → List Half → List Half → Type 0
AreMultiplied k halves later = AreChanged (scaled_vector k) halves later

-- no step of n·v lies outside i128, for every vector v
abbrev pub ImagesFit : ℕ → Matrix Quad → List Half → Type 0
ImagesFit d n halves = (k : ℕ) → k < length halves → VectorFits d (mapped term_ops (matrix_term n) (vector_term (half_at halves k).vec))

-- no part of m·v lies outside i128, for every vector v
abbrev pub MultiplesFit : ℕ → ℤ → List Half → Type 0
MultiplesFit d m halves = (k : ℕ) → k < length halves → VectorFits d (scaled_term m (half_at halves k).vec)
