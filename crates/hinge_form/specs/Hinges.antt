-- Half-plane points, and the hinges of the edges of a triangulation.
use Rattle.std.specs.Prelude.{ℕ, pos, ◌*ℤ◌, List}
use Rattle.rings.specs.Forms.{length_by, value_at, three_row_determinant, hinge_triple}
use Rattle.rings.specs.Lines.{IsInside}
use Rattle.quad_field.specs.Quads.{quad, quad_ops, IsPositive}
use Rattle.quad_field.specs.Width.{Term, number, term_ops, StepsFit}
use Rattle.quad_field.specs.declared.quad.Quad.{Quad}
use Rattle.plane.specs.Vectors.{Vector, opposite_vector}
use Rattle.surface_text.specs.declared.file.Point.{Point}
use Rattle.tri_core.specs.declared.half.Half.{Half}
use Rattle.tri_core.specs.HalfEdges.{vector_at, twin_at, next_of, previous_of}
use Rattle.tri_core.specs.Flips.{IsEdge}
use Rattle.hinge_form.specs.declared.form.Form.{Form}
use Rattle.hinge_form.specs.declared.place.Place3.{Place3}
use Rattle.hinge_form.specs.Triples.{leaves, IsReduced, AllThreeFit}
pub use Rattle.hinge_form.specs.Triples.{Triple, of_form, of_place}

-- a half-plane point: w > 0 and w·y > x²; it stands for the z of the upper half-plane with real part x/w and |z|² = y/w
abbrev pub IsHalfPlanePoint : ℕ → Triple → Type 0
IsHalfPlanePoint d q = IsInside (quad_ops d) (IsPositive d) q

-- the height of a vector (s, t) at a place: w·s² + 2x·s·t + y·t², which is w times the squared length of s + t·z
abbrev pub height : ℕ → Triple → Vector Quad → Quad
height d q v = length_by (quad_ops d) q v

-- the vector a of half-edge h, the first of its hinge
abbrev pub hinge_a : List Half → ℕ → Vector Quad
hinge_a halves h = vector_at halves h

-- the vector c from the start of h to the third corner of its triangle, on the left
abbrev pub hinge_c : ℕ → List Half → ℕ → Vector Quad
hinge_c d halves h = opposite_vector (quad_ops d) (vector_at halves (previous_of h))

-- the vector d from the start of h to the third corner of its twin's triangle, on the right
abbrev pub hinge_d : List Half → ℕ → Vector Quad
hinge_d halves h = vector_at halves (next_of (twin_at halves h))

-- the hinge value at a place: the determinant of the three rows (s, t, height) of a, c and d
abbrev pub hinge_value : ℕ → List Half → ℕ → Triple → Quad
hinge_value d halves h q = three_row_determinant (quad_ops d) q (hinge_a halves h) (hinge_c d halves h) (hinge_d halves h)

-- the triangulation is strictly Delaunay at a place: every edge's hinge value is positive
abbrev pub IsStrictAt : ℕ → List Half → Triple → Type 0
IsStrictAt d halves q = (h : ℕ) → IsEdge halves h → IsPositive d (hinge_value d halves h q)

-- the three coefficients of the hinge value, before a common divisor is taken out
abbrev pub full_triple : ℕ → List Half → ℕ → Triple
full_triple d halves h = hinge_triple (quad_ops d) (hinge_a halves h) (hinge_c d halves h) (hinge_d halves h)

-- the hinge triple: the coefficients with their greatest common divisor taken out
abbrev pub IsHingeTriple : ℕ → List Half → ℕ → Triple → Type 0
IsHingeTriple d halves h l = IsReduced (full_triple d halves h) l

-- the trees of a vector's coordinates
abbrev pub vector_leaves : Vector Quad → Vector Term
vector_leaves u = (number u.0, number u.1)

-- no step of the coefficients lies outside i128
abbrev pub TripleFits : ℕ → List Half → ℕ → Type 0
TripleFits d halves h =
    AllThreeFit d (hinge_triple term_ops (vector_leaves (hinge_a halves h)) (vector_leaves (hinge_c d halves h)) (vector_leaves (hinge_d halves h)))

-- the value of a form at a place
abbrev pub value_of : ℕ → Form → Place3 → Quad
value_of d form at = value_at (quad_ops d) (of_form form) (of_place at)

-- no step of a form's value at a place lies outside i128
abbrev pub PlaceFits : ℕ → Triple → Triple → Type 0
PlaceFits d l q = StepsFit d (value_at term_ops (leaves l) (leaves q))

-- no step of the value of a form at a place lies outside i128
abbrev pub ValueFits : ℕ → Form → Place3 → Type 0
ValueFits d form at = PlaceFits d (of_form form) (of_place at)

-- the place of a base point X = xn/xd, Y = yn/yd: (xd·yd, xn·yd, yn·xd)
abbrev pub place_at : Point → Triple
place_at at = (quad (at.xd *ℤ at.yd) (pos 0), quad (at.xn *ℤ at.yd) (pos 0), quad (at.yn *ℤ at.xd) (pos 0))
