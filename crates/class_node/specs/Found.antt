-- The walls of a class, found once.
use Rattle.std.specs.Prelude.{◌≡◌, ℕ, ℤ, List}
use Rattle.parabola_region.specs.WallLists.{plain_walls}
use Rattle.canon_code.specs.Canonical.{canonical}
use Rattle.class_node.specs.declared.classes.ClassWalls.{ClassWalls}
use Rattle.class_node.specs.Classes.{field_of, AreWallsOf}

-- the canonical triangulation of a class, and its walls
abbrev pub AreFoundOver : ℕ → List ℤ → ClassWalls → Type 0
AreFoundOver d code walled = (walled.tri ≡ record { field = d; halves = canonical d code }) × AreWallsOf d code (plain_walls walled.walls.items)

-- the same over the field of a terrain
abbrev pub AreFound : List ℤ → List ℤ → ClassWalls → Type 0
AreFound t k walled = AreFoundOver (field_of t) k walled
