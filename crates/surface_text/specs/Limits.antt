-- Which lines and files are within the limits.
use Rattle.std.specs.Prelude.{ℕ, ◌≤◌, ◌<◌, ℤ, pos, ◌*ℤ◌, ◌≤ℤ◌, ◌<ℤ◌, List, [], length, get_or, unsigned_abs}
use Rattle.std.specs.Int.{IsGcd}
use Rattle.std.specs.List.{AllByRecursion}
use Rattle.quad_field.specs.declared.quad.Quad.{Quad}
use Rattle.quad_field.specs.FieldNumber.{IsFieldNumber}
use Rattle.plane.specs.declared.vec2.Vec2.{Vec2}
use Rattle.surface_text.specs.declared.file.Point.{Point}
use Rattle.surface_text.specs.declared.file.Glue.{Glue}
use Rattle.surface_text.specs.Spelling.{Content}

-- a whole number is bounded: at most 1,000,000,000 in absolute value
abbrev pub IsBounded : ℤ → Type 0
IsBounded n = unsigned_abs n ≤ 1000000000

-- n/d is in lowest terms: no number above 1 divides both
abbrev pub IsLowest : ℤ → ℤ → Type 0
IsLowest n d = IsGcd (unsigned_abs n) (unsigned_abs d) 1

-- n/d has the form of a fraction: a denominator of at least 1, and lowest terms, where no number is too large
abbrev pub IsFraction : ℤ → ℤ → Type 0
IsFraction n d = (pos 1 ≤ℤ d) × (IsBounded n → IsBounded d → IsLowest n d)

-- both fractions of a point have their form
abbrev pub HasFractions : Point → Type 0
HasFractions at = IsFraction at.xn at.xd × IsFraction at.yn at.yd

-- all four numbers of a point are bounded
abbrev pub IsBoundedPoint : Point → Type 0
IsBoundedPoint at = IsBounded at.xn × IsBounded at.xd × IsBounded at.yn × IsBounded at.yd

-- a point lies above the parabola: Y > X·X, multiplied by its denominators
abbrev pub IsAbove : Point → Type 0
IsAbove at = ((at.xn *ℤ at.xn) *ℤ at.yd) <ℤ ((at.xd *ℤ at.xd) *ℤ at.yn)

-- a base point: fractions of bounded numbers in lowest terms, with Y > X·X
pub record IsBasePoint (at : Point) : Type 0 where
  pub form : HasFractions at
  pub bounded : IsBoundedPoint at
  pub above : IsAbove at

-- both parts of a K-integer are bounded
abbrev pub IsBoundedQuad : Quad → Type 0
IsBoundedQuad x = IsBounded x.a × IsBounded x.b

-- both coordinates of a vector are bounded
abbrev pub IsBoundedVector : Vec2 → Type 0
IsBoundedVector v = IsBoundedQuad v.s × IsBoundedQuad v.t

-- a polygon within the limits: at least three sides, all of them bounded
abbrev pub IsPolygon : List Vec2 → Type 0
IsPolygon sides = (3 ≤ length sides) × AllByRecursion IsBoundedVector sides

-- there is a polygon p, and it has a side e
abbrev pub IsThere : List (List Vec2) → ℕ → ℕ → Type 0
IsThere polygons p e = (p < length polygons) × (e < length (get_or polygons p []))

-- both sides that a glue line names are there
abbrev pub NamesSides : List (List Vec2) → Glue → Type 0
NamesSides polygons g = IsThere polygons g.p1 g.e1 × IsThere polygons g.p2 g.e2

-- a file within the limits
pub record IsWithinLimits (file : Content) : Type 0 where
  pub field : IsFieldNumber file.field
  pub bases : AllByRecursion IsBasePoint file.bases
  pub few_bases : length file.bases ≤ 8
  pub polygons : AllByRecursion IsPolygon file.polygons
  pub some_polygons : 1 ≤ length file.polygons
  pub few_polygons : length file.polygons ≤ 256
  pub glues : AllByRecursion (NamesSides file.polygons) file.glues
