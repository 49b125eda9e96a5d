-- The canonical triangulation of a code, and the frame of a start.
use Rattle.std.specs.Prelude.{ℕ, ℤ, zero, suc, pos, ◌+◌, ◌*◌, ◌/◌, ◌%◌, ◌<◌, length, List, map, get_or, unsigned_abs}
use Rattle.std.specs.List.{range_with_len}
use Rattle.quad_field.specs.Quads.{quad, quad_ops}
use Rattle.quad_field.specs.declared.quad.Quad.{Quad}
use Rattle.plane.specs.Vectors.{Vector, vector_sum, opposite_vector}
use Rattle.tri_core.specs.declared.half.Half.{Half}
use Rattle.tri_core.specs.HalfEdges.{vector_at, next_of}
use Rattle.tri_core.specs.Triangulation.{IsTriangulation}
use Rattle.quad_field.specs.Width.{PartsFit}
use Rattle.rings.specs.Matrices.{Matrix}
use Rattle.canon_code.specs.Codes.{IsCode}

-- the number at place i of a code
abbrev pub number_at : List ℤ → ℕ → ℤ
number_at code i = get_or code i (pos 0)

-- the vector whose four numbers begin at place i
abbrev pub vector_from : List ℤ → ℕ → Vector Quad
vector_from code i = (quad (number_at code i) (number_at code (i + 1)), quad (number_at code (i + 2)) (number_at code (i + 3)))

-- the vector of side j of the triangle whose numbers begin at place i: the third is the opposite of the sum of the other two
abbrev pub side_from : ℕ → List ℤ → ℕ → ℕ → Vector Quad
side_from d code i zero = vector_from code i
side_from d code i (suc zero) = vector_from code (i + 4)
side_from d code i (suc (suc j)) = opposite_vector (quad_ops d) (vector_sum (quad_ops d) (vector_from code i) (vector_from code (i + 4)))

-- a half-edge with this vector and twin
abbrev pub half_of : Vector Quad → ℕ → Half
half_of v twin = record { vec = record { s = v.0; t = v.1 }; twin = twin }

-- half-edge k of the canonical triangulation
abbrev pub canonical_half : ℕ → List ℤ → ℕ → Half
canonical_half d code k = half_of (side_from d code (2 + 11 * (k / 3)) (k % 3)) (unsigned_abs (number_at code (2 + 11 * (k / 3) + (8 + k % 3))))

-- the canonical triangulation: three half-edges for each triangle that the first number counts
abbrev pub canonical : ℕ → List ℤ → List Half
canonical d code = map (canonical_half d code) (range_with_len 0 (3 * unsigned_abs (number_at code 0)))

-- the scale of a code
abbrev pub scale_of : List ℤ → ℕ
scale_of code = unsigned_abs (number_at code 1)

-- the frame of start h: the matrix with its vector and the next as columns, over the scale
abbrev pub frame : List Half → ℕ → Matrix Quad
frame halves h = let e = vector_at halves h in let g = vector_at halves (next_of h) in (e.0, g.0, e.1, g.1)

-- both parts of both coordinates fit
abbrev pub PairFits : Vector Quad → Type 0
PairFits v = PartsFit v.0 × PartsFit v.1

-- the third vectors of the canonical triangulation, which the code doesn't list, fit
abbrev pub ThirdVectorsFit : ℕ → List ℤ → Type 0
ThirdVectorsFit d code = (t : ℕ) → 3 * t + 2 < length (canonical d code) → PairFits (vector_at (canonical d code) (3 * t + 2))

-- the code of a triangulation, whose third vectors fit
abbrev pub IsMade : ℕ → List ℤ → Type 0
IsMade d code = (halves : List Half) × IsTriangulation d halves × IsCode d halves code × ThirdVectorsFit d code
