-- Triangulations: 2 to 256 triangles whose vectors sum to zero and turn to the left, paired side by side, and connected.
use Rattle.std.specs.Prelude.{◌≡◌, ℕ, ◌+◌, ◌*◌, ◌%◌, ◌<◌, ◌≤◌, Bool, IsTrue, List, length}
use Rattle.quad_field.specs.Quads.{quad_ops, IsPositive}
use Rattle.rings.specs.Vectors.{zero_vector}
use Rattle.plane.specs.Vectors.{det, vector_sum, opposite_vector}
use Rattle.tri_core.specs.declared.half.Half.{Half}
use Rattle.tri_core.specs.HalfEdges.{vector_at, twin_at, triangle_of}

-- three half-edges a triangle, from 2 to 256 triangles
abbrev pub HasTriangles : List Half → Type 0
HasTriangles halves = (length halves % 3 ≡ 0) × (6 ≤ length halves) × (length halves ≤ 768)

-- t is the number of a triangle
abbrev pub IsTriangle : List Half → ℕ → Type 0
IsTriangle halves t = 3 * t < length halves

-- the three vectors of triangle t sum to zero
abbrev pub IsClosed : ℕ → List Half → ℕ → Type 0
IsClosed d halves t =
    let O = quad_ops d in
    vector_sum O (vector_sum O (vector_at halves (3 * t)) (vector_at halves (3 * t + 1))) (vector_at halves (3 * t + 2)) ≡ zero_vector O

-- half-edge k turns to the left into half-edge m: their determinant is positive
abbrev pub TurnsInto : ℕ → List Half → ℕ → ℕ → Type 0
TurnsInto d halves k m = IsPositive d (det (quad_ops d) (vector_at halves k) (vector_at halves m))

-- the twin of h is a half-edge whose twin is h and whose vector is opposite
abbrev pub IsPaired : ℕ → List Half → ℕ → Type 0
IsPaired d halves h =
    (twin_at halves h < length halves)
    × (twin_at halves (twin_at halves h) ≡ h)
    × (vector_at halves (twin_at halves h) ≡ opposite_vector (quad_ops d) (vector_at halves h))

-- a set of triangles that holds the neighbours of each of its triangles
abbrev pub IsClosedUnderTwins : List Half → (ℕ → Bool) → Type 0
IsClosedUnderTwins halves set =
    (h : ℕ) → h < length halves → IsTrue (set (triangle_of h)) → IsTrue (set (triangle_of (twin_at halves h)))

-- t is joined to triangle 0: it is in the least set that holds triangle 0 and is closed under twins
abbrev pub IsJoined : List Half → ℕ → Type 0
IsJoined halves t = (set : ℕ → Bool) → IsTrue (set 0) → IsClosedUnderTwins halves set → IsTrue (set t)

-- a triangulation over the field of √d
pub record IsTriangulation (d : ℕ) (halves : List Half) : Type 0 where
  pub count : HasTriangles halves
  pub closed : (t : ℕ) → IsTriangle halves t → IsClosed d halves t
  pub turns : (t : ℕ) → IsTriangle halves t → TurnsInto d halves (3 * t) (3 * t + 1)
  pub paired : (h : ℕ) → h < length halves → IsPaired d halves h
  pub joined : (t : ℕ) → IsTriangle halves t → IsJoined halves t

-- what contracts see of a checked triangulation: the number of its field, and its half-edges
pub record Triangulation : Type 0 where
  pub field : ℕ
  pub halves : List Half
