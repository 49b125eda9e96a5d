-- For private contracts alone: K-integers and vectors of 64 bits.
use Rattle.std.specs.Prelude.{◌≡◌, ℕ, ℤ}
use Rattle.quad_field.specs.declared.quad.Quad.{Quad}
use Rattle.quad_field.specs.Quads.{quad, quad_ops}
use Rattle.plane.specs.Vectors.{Vector, vector, det}
use Rattle.canon_code.specs.declared.small.Quad64.{Quad64}
use Rattle.canon_code.specs.declared.small.Vector64.{Vector64}
use Rattle.canon_code.specs.declared.small.SmallFrame.{SmallFrame}
use Rattle.canon_code.specs.declared.coordinates.Frame.{Frame}

-- the K-integer of two parts of 64 bits, and the vector of two such
abbrev pub quad_of : Quad64 → Quad
quad_of x = quad x.a x.b

abbrev pub vector_of : Vector64 → Vector Quad
vector_of v = (quad_of v.s, quad_of v.t)

-- determinants with its vectors are those with the frame's, times the conjugate, and the divisor is the same
pub record IsSmallFrame (d : ℕ) (frame : Frame) (divisor : ℤ) (small : SmallFrame) : Type 0 where
  pub first : (v : Vector Quad) → det (quad_ops d) v (vector_of small.g) ≡ (quad_ops d).mul (det (quad_ops d) v (vector frame.g)) frame.conjugate
  pub second : (v : Vector Quad) → det (quad_ops d) (vector_of small.e) v ≡ (quad_ops d).mul (det (quad_ops d) (vector frame.e) v) frame.conjugate
  pub same : small.divisor ≡ divisor
