-- Polygons, as the lists of their sides' vectors: when they are closed, flat and convex.
use Rattle.std.specs.Prelude.{◌≡◌, ℕ, pos, ◌+◌, ◌%◌, ◌<◌, List, [], ◌∷◌, length, map, get_or, slice_index_or}
use Rattle.quad_field.specs.Quads.{quad_ops, IsPositive}
use Rattle.quad_field.specs.declared.quad.Quad.{Quad}
use Rattle.plane.specs.Halves.{IsUpper}
use Rattle.plane.specs.Vectors.{Vector, det, vector_sum, vector}
use Rattle.plane.specs.declared.vec2.Vec2.{Vec2}

-- the zero of the field
abbrev pub zero_of : ℕ → Quad
zero_of d = (quad_ops d).int (pos 0)

-- the zero vector
abbrev pub no_vector : ℕ → Vector Quad
no_vector d = (zero_of d, zero_of d)

-- the vectors of a polygon's sides, counterclockwise
abbrev pub vectors : List Vec2 → List (Vector Quad)
vectors sides = map vector sides

-- the sides of polygon p; past the last polygon there are none, and no polygon of a file is without sides
abbrev pub polygon_at : List (List Vec2) → ℕ → List (Vector Quad)
polygon_at polygons p = vectors (get_or polygons p [])

-- side i of a polygon; past the last side stands the zero vector, which is no side of a convex polygon
abbrev pub side_at : ℕ → List (Vector Quad) → ℕ → Vector Quad
side_at d sides i = slice_index_or sides i (no_vector d)

-- the side after side i, round the end
abbrev pub side_after : ℕ → List (Vector Quad) → ℕ → Vector Quad
side_after d sides i = side_at d sides ((i + 1) % length sides)

-- corner i lies between side i and the side after it: the determinant of the two, which is positive where the polygon turns to the left
abbrev pub corner : ℕ → List (Vector Quad) → ℕ → Quad
corner d sides i = det (quad_ops d) (side_at d sides i) (side_after d sides i)

-- the sum of vectors
abbrev pub sum_of : ℕ → List (Vector Quad) → Vector Quad
sum_of d [] = no_vector d
sum_of d (v ∷ sides) = vector_sum (quad_ops d) v (sum_of d sides)

-- the sides sum to zero
abbrev pub IsClosed : ℕ → List (Vector Quad) → Type 0
IsClosed d sides = sum_of d sides ≡ no_vector d

-- the determinant of every corner is zero
abbrev pub IsFlat : ℕ → List (Vector Quad) → Type 0
IsFlat d sides = (i : ℕ) → i < length sides → corner d sides i ≡ zero_of d

-- the inner product of two vectors is positive: where they are parallel, they point the same way
abbrev pub PointAlike : ℕ → Vector Quad → Vector Quad → Type 0
PointAlike d u v = let O = quad_ops d in IsPositive d (O.add (O.mul u.0 v.0) (O.mul u.1 v.1))

-- at corner i the half changes from lower to upper: the polygon passes the direction (1, 0)
abbrev pub Rises : ℕ → List (Vector Quad) → ℕ → Type 0
Rises d sides i = ¬ (IsUpper d (side_at d sides i)) × IsUpper d (side_after d sides i)

-- the polygon turns once: round its sides, the half changes from lower to upper at exactly one corner
abbrev pub TurnsOnce : ℕ → List (Vector Quad) → Type 0
TurnsOnce d sides =
    (i : ℕ) × (i < length sides) × Rises d sides i × ((k : ℕ) → k < length sides → Rises d sides k → k ≡ i)

-- a convex polygon, which may have flat corners: no side is zero, no corner turns to the right or back, and the polygon turns once
pub record IsConvex (d : ℕ) (sides : List (Vector Quad)) : Type 0 where
  pub sides_nonzero : (i : ℕ) → i < length sides → ¬ (side_at d sides i ≡ no_vector d)
  pub never_right : (i : ℕ) → i < length sides → ¬ (IsPositive d ((quad_ops d).neg (corner d sides i)))
  pub never_back : (i : ℕ) → i < length sides → corner d sides i ≡ zero_of d → PointAlike d (side_at d sides i) (side_after d sides i)
  pub once : TurnsOnce d sides

-- a polygon of a surface: it is closed and convex, and not flat
pub record IsProper (d : ℕ) (sides : List (Vector Quad)) : Type 0 where
  pub closed : IsClosed d sides
  pub not_flat : ¬ (IsFlat d sides)
  pub convex : IsConvex d sides
