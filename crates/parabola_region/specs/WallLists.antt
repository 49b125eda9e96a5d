-- Lists of walls.
use Rattle.std.specs.Prelude.{ℕ, ◌<◌, List, [], length, slice_index, slice_index_or, map}
use Rattle.std.specs.List.{Contains}
use Rattle.tri_core.specs.declared.half.Half.{Half}
use Rattle.tri_core.specs.Flips.{IsEdge}
use Rattle.hinge_form.specs.declared.wall.Wall.{Wall}
use Rattle.hinge_form.specs.Triples.{Triple, of_form, zeros}
use Rattle.hinge_form.specs.Hinges.{full_triple}
use Rattle.hinge_form.specs.Walls.{IsWallLine, IsWall}

-- a wall as its form and the list of its edges
abbrev pub PlainWall : Type 0
PlainWall = Triple × List ℕ

abbrev pub plain_wall : Wall → PlainWall
plain_wall wall = (of_form wall.form, wall.edges.items)

abbrev pub plain_walls : List Wall → List PlainWall
plain_walls walls = map plain_wall walls

-- wall number j; what is read past the end of the list no definition asks
abbrev pub no_wall : PlainWall
no_wall = (zeros, [])

abbrev pub wall_at : List PlainWall → ℕ → PlainWall
wall_at walls j = slice_index_or walls j no_wall

abbrev pub form_of : List PlainWall → ℕ → Triple
form_of walls j = (wall_at walls j).0

abbrev pub edges_of : List PlainWall → ℕ → List ℕ
edges_of walls j = (wall_at walls j).1

-- the least edge of a wall
abbrev pub least_edge : PlainWall → ℕ
least_edge wall = slice_index wall.1 0

-- edge h is one of a listed wall's
abbrev pub IsCovered : List PlainWall → ℕ → Type 0
IsCovered walls h = (j : ℕ) × (j < length walls) × Contains (edges_of walls j) h

-- exactly the walls of a triangulation, by their least edges: each is one, and the edges of every wall line are covered
pub record IsWallList (d : ℕ) (halves : List Half) (walls : List PlainWall) : Type 0 where
  pub ascends : (i j : ℕ) → i < j → j < length walls → least_edge (wall_at walls i) < least_edge (wall_at walls j)
  pub each : (j : ℕ) → j < length walls → IsWall d halves (form_of walls j) (edges_of walls j)
  pub every : (h : ℕ) → IsEdge halves h → IsWallLine d halves (full_triple d halves h) → IsCovered walls h
