-- Polygons that can be cut: what stays true of a convex polygon while ears are cut off; only private clauses cite it.
use Rattle.std.specs.Prelude.{◌≡◌, ℕ, List, ◌++◌}
use Rattle.std.specs.List.{AllByRecursion}
use Rattle.quad_field.specs.Quads.{quad_ops, IsPositive}
use Rattle.quad_field.specs.declared.quad.Quad.{Quad}
use Rattle.plane.specs.Vectors.{Vector, det}
use Rattle.gluing.specs.Polygons.{no_vector, sum_of, IsClosed}
use Rattle.ear_cut.specs.Cuttings.{HasPositiveCorner}

-- two stretches of sides, one after the other, never turn to the right: the corners of the polygon lie in convex position
abbrev pub NeverTurnsRight : ℕ → List (Vector Quad) → Type 0
NeverTurnsRight d sides =
    (a x y b : List (Vector Quad)) → sides ≡ a ++ (x ++ (y ++ b))
    → ¬ (IsPositive d ((quad_ops d).neg (det (quad_ops d) (sum_of d x) (sum_of d y))))

-- a closed polygon of nonzero sides in convex position, with some positive corner
pub record IsCuttable (d : ℕ) (sides : List (Vector Quad)) : Type 0 where
  pub closed : IsClosed d sides
  pub nonzero : AllByRecursion (λ v. ¬ (v ≡ no_vector d)) sides
  pub left : NeverTurnsRight d sides
  pub some : HasPositiveCorner d sides
