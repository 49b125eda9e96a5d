-- For private contracts alone: numbers that are not wide, and what is said of one corner.
use Rattle.std.specs.Prelude.{◌≡◌, ℕ, ◌≤◌, ◌<◌, List, length, Option, Some, None, unsigned_abs}
use Rattle.quad_field.specs.Ring.{Ops}
use Rattle.quad_field.specs.Quads.{quad_ops, IsPositive}
use Rattle.quad_field.specs.declared.quad.Quad.{Quad}
use Rattle.plane.specs.Vectors.{Vector}
use Rattle.gluing.specs.Polygons.{zero_of, no_vector, side_at, side_after, corner, PointAlike, Rises}

-- both parts of a K-integer are at most n in absolute value
abbrev pub IsWithin : ℕ → Quad → Type 0
IsWithin n x = (unsigned_abs x.a ≤ n) × (unsigned_abs x.b ≤ n)

-- both coordinates of a vector are within n
abbrev pub IsVectorWithin : ℕ → Vector Quad → Type 0
IsVectorWithin n v = IsWithin n v.0 × IsWithin n v.1

-- the inner product of two vectors
abbrev pub inner : {R : Type 0} → Ops R → Vector R → Vector R → R
inner O u v = O.add (O.mul u.0 v.0) (O.mul u.1 v.1)

-- side i isn't zero, and corner i turns neither right nor back
abbrev pub IsCornerProper : ℕ → List (Vector Quad) → ℕ → Type 0
IsCornerProper d sides i =
    ¬ (side_at d sides i ≡ no_vector d)
    × ¬ (IsPositive d ((quad_ops d).neg (corner d sides i)))
    × (corner d sides i ≡ zero_of d → PointAlike d (side_at d sides i) (side_after d sides i))

-- no side is zero, and no corner turns right or back
abbrev pub AreCornersProper : ℕ → List (Vector Quad) → Type 0
AreCornersProper d sides = (i : ℕ) → i < length sides → IsCornerProper d sides i

-- the first corner from a place on where the half changes from lower to upper, or that there is none
abbrev pub IsFirstRise : ℕ → List (Vector Quad) → ℕ → Option ℕ → Type 0
IsFirstRise d sides from None = (k : ℕ) → from ≤ k → k < length sides → ¬ (Rises d sides k)
IsFirstRise d sides from (Some i) =
    (from ≤ i) × (i < length sides) × Rises d sides i × ((k : ℕ) → from ≤ k → k < i → ¬ (Rises d sides k))
