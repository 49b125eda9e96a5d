-- The walls of a triangulation by numbers, and how those of an image correspond to them.
use Rattle.std.specs.Prelude.{◌↔◌, ℕ, ◌<◌, List, slice_index}
use Rattle.std.specs.List.{Contains}
use Rattle.rings.specs.Matrices.{Matrix}
use Rattle.quad_field.specs.declared.quad.Quad.{Quad}
use Rattle.tri_core.specs.declared.half.Half.{Half}
use Rattle.tri_core.specs.Flips.{IsEdge}
use Rattle.hinge_form.specs.Triples.{Triple}
use Rattle.hinge_form.specs.Hinges.{full_triple}
use Rattle.hinge_form.specs.Walls.{IsWallLine, IsWall}
use Rattle.wall_cross.specs.Edges.{AreMatching, IsEdgeName}

-- exactly the walls of a triangulation, by their least edges: wall number j has this form and these edges
pub record AreWalls (d : ℕ) (halves : List Half) (count : ℕ) (form : ℕ → Triple) (edges : ℕ → List ℕ) : Type 0 where
  pub ascends : (i j : ℕ) → i < j → j < count → slice_index (edges i) 0 < slice_index (edges j) 0
  pub each : (j : ℕ) → j < count → IsWall d halves (form j) (edges j)
  pub every : (h : ℕ) → IsEdge halves h → IsWallLine d halves (full_triple d halves h) → (j : ℕ) × (j < count) × Contains (edges j) h

-- a wall of `from` and one of its image `to` match: n carries the line of the one to that of the other, and the bijection its edges to the other's
pub record IsWallPair (d : ℕ) (n : Matrix Quad) (from to : List Half) (forth : ℕ → ℕ) (l m : Triple) (edges others : List ℕ) : Type 0 where
  pub same_line : AreMatching d n l m
  pub same_edges : (h e : ℕ) → IsEdge from h → IsEdgeName to (forth h) e → Contains edges h ↔ Contains others e
