-- Vectors of K-integers, their sums, opposites and determinants, and the trees of these for their width.
use Rattle.std.specs.Prelude.{ℕ, ℤ}
pub use Rattle.quad_field.specs.Forms.{det}
pub use Rattle.quad_field.specs.Vectors.{Vector, vector_sum, opposite_vector}
use Rattle.rings.specs.Matrices.{Matrix}
use Rattle.quad_field.specs.Quads.{scaled}
use Rattle.quad_field.specs.Width.{Term, number, scaling, StepsFit}
use Rattle.plane.specs.declared.vec2.Vec2.{Vec2}
use Rattle.quad_field.specs.declared.quad.Quad.{Quad}

-- the coordinates of a vector of K-integers
abbrev pub vector : Vec2 → Vector Quad
vector u = (u.s, u.t)

-- the same as trees, for a formula's width
abbrev pub vector_term : Vec2 → Vector Term
vector_term u = (number u.s, number u.t)

abbrev pub matrix_term : Matrix Quad → Matrix Term
matrix_term n = (number n.0, number n.1, number n.2, number n.3)

-- k·v for a whole number k, and its trees
abbrev pub scaled_vector : ℤ → Vector Quad → Vector Quad
scaled_vector k v = (scaled k v.0, scaled k v.1)

abbrev pub scaled_term : ℤ → Vec2 → Vector Term
scaled_term k u = (scaling k (number u.s), scaling k (number u.t))

-- no step of either coordinate's tree lies outside i128
abbrev pub VectorFits : ℕ → Vector Term → Type 0
VectorFits d u = StepsFit d u.0 × StepsFit d u.1
