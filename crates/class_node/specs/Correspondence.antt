-- How the walls of a class correspond to those of an image of its canonical triangulation.
use Rattle.std.specs.Prelude.{◌≡◌, ℕ, ◌<◌, List, length}
use Rattle.rings.specs.Matrices.{Matrix}
use Rattle.quad_field.specs.declared.quad.Quad.{Quad}
use Rattle.tri_core.specs.declared.half.Half.{Half}
use Rattle.parabola_region.specs.WallLists.{PlainWall, form_of, edges_of}
use Rattle.wall_cross.specs.Edges.{AreMatching}
use Rattle.wall_cross.specs.Correspondence.{IsWallPair}

-- n carries the line of wall w of one list to that of wall v of the other
abbrev pub AreMatchingWalls : ℕ → Matrix Quad → List PlainWall → ℕ → List PlainWall → ℕ → Type 0
AreMatchingWalls d n walls w others v = AreMatching d n (form_of walls w) (form_of others v)

-- wall w of `from` and wall v of its image `to` match, in their lines and in their edges
abbrev pub IsPairOfWalls : ℕ → Matrix Quad → List Half → List Half → (ℕ → ℕ) → List PlainWall → ℕ → List PlainWall → ℕ → Type 0
IsPairOfWalls d n from to forth walls w others v = IsWallPair d n from to forth (form_of walls w) (form_of others v) (edges_of walls w) (edges_of others v)

-- the walls of `from` and those of its image `to` correspond one to one
pub record AreOneToOne (d : ℕ) (n : Matrix Quad) (from to : List Half) (forth : ℕ → ℕ) (walls others : List PlainWall) : Type 0 where
  pub each : (w : ℕ) → w < length walls → (v : ℕ) × (v < length others) × IsPairOfWalls d n from to forth walls w others v
  pub every : (v : ℕ) → v < length others → (w : ℕ) × (w < length walls) × IsPairOfWalls d n from to forth walls w others v
  pub one : (w u v : ℕ) → u < length others → v < length others → AreMatchingWalls d n walls w others u → AreMatchingWalls d n walls w others v → u ≡ v
  pub once : (u w v : ℕ) → u < length walls → w < length walls → AreMatchingWalls d n walls u others v → AreMatchingWalls d n walls w others v → u ≡ w
