-- The classes of the triangulations over a field: each by its code, with the walls of its canonical triangulation.
use Rattle.std.specs.Prelude.{◌≡◌, ℕ, ◌<◌, ℤ, pos, negsuc, List, [], ◌∷◌, length}
use Rattle.quad_field.specs.FieldNumber.{IsFieldNumber}
use Rattle.tri_core.specs.declared.half.Half.{Half}
use Rattle.parabola_region.specs.WallLists.{PlainWall, edges_of, IsWallList}
use Rattle.wall_cross.specs.Crossings.{AreAllFlipped}
use Rattle.canon_code.specs.Canonical.{canonical, IsMade}

-- the list for which the terrain of the classes over a field stands: the number of the field
abbrev pub field_numbers : ℕ → List ℤ
field_numbers d = pos d ∷ []

-- the number of the field for which a list stands
abbrev pub field_of : List ℤ → ℕ
field_of [] = 0
field_of (pos d ∷ numbers) = d
field_of (negsuc d ∷ numbers) = 0

-- a class over the field: the list is the code of a triangulation, as codes are given
abbrev pub IsClassOver : ℕ → List ℤ → Type 0
IsClassOver d code = IsFieldNumber d × IsMade d code

-- the walls of a class: those of its canonical triangulation, in the order of their least edges
abbrev pub AreWallsOf : ℕ → List ℤ → List PlainWall → Type 0
AreWallsOf d code walls = IsWallList d (canonical d code) walls

-- `later` are the half-edges behind wall w of a class: those of its canonical triangulation with all edges of the wall flipped
abbrev pub LiesBehindWall : ℕ → List ℤ → ℕ → List Half → Type 0
LiesBehindWall d code w later =
    (walls : List PlainWall) × AreWallsOf d code walls × (w < length walls) × AreAllFlipped d (canonical d code) (edges_of walls w) later

-- a class has n walls
abbrev pub HasWallsOver : ℕ → List ℤ → ℕ → Type 0
HasWallsOver d code n = ∥ IsClassOver d code × ((walls : List PlainWall) × AreWallsOf d code walls × (length walls ≡ n)) ∥₁

-- the same over the field of a terrain
abbrev pub IsClass : List ℤ → List ℤ → Type 0
IsClass t k = ∥ IsClassOver (field_of t) k ∥₁

abbrev pub HasWalls : List ℤ → List ℤ → ℕ → Type 0
HasWalls t k n = HasWallsOver (field_of t) k n
