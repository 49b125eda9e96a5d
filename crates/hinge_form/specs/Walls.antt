-- The walls of a triangulation: the lines that bound the half-plane points at which it is Delaunay (Bowman, iso-Delaunay regions).
use Rattle.std.specs.Prelude.{◌↔◌, ℕ, ◌<◌, ◌≤◌, List, length, slice_index}
use Rattle.std.specs.List.{Contains}
use Rattle.rings.specs.Lines.{IsOn}
use Rattle.quad_field.specs.Quads.{quad_ops, IsPositive}
use Rattle.tri_core.specs.declared.half.Half.{Half}
use Rattle.tri_core.specs.Flips.{IsEdge}
use Rattle.hinge_form.specs.Triples.{Triple}
use Rattle.hinge_form.specs.Hinges.{IsHalfPlanePoint, hinge_value, full_triple, IsHingeTriple}
use Rattle.hinge_form.specs.Lines.{IsMultiple}

-- edge h is one of the line of l: its hinge triple is a positive multiple of l
abbrev pub IsEdgeOf : ℕ → List Half → Triple → ℕ → Type 0
IsEdgeOf d halves l h = IsEdge halves h × IsMultiple d l (full_triple d halves h)

-- q is a half-plane point on the line of l at which every edge whose triple isn't a positive multiple of l has a positive hinge value
pub record IsWallPoint (d : ℕ) (halves : List Half) (l q : Triple) : Type 0 where
  pub inside : IsHalfPlanePoint d q
  pub on : IsOn (quad_ops d) l q
  pub others : (h : ℕ) → IsEdge halves h → ¬ (IsMultiple d l (full_triple d halves h)) → IsPositive d (hinge_value d halves h q)

-- the line of l is a wall: there is such a point
abbrev pub IsWallLine : ℕ → List Half → Triple → Type 0
IsWallLine d halves l = (q : Triple) × IsWallPoint d halves l q

-- exactly the numbers with a property, ascending
pub record IsListing (P : ℕ → Type 0) (numbers : List ℕ) : Type 0 where
  pub ascends : (i j : ℕ) → i < j → j < length numbers → slice_index numbers i < slice_index numbers j
  pub exactly : (n : ℕ) → Contains numbers n ↔ P n

-- a wall: the hinge triple of its least edge, and all its edges
pub record IsWall (d : ℕ) (halves : List Half) (form : Triple) (edges : List ℕ) : Type 0 where
  pub some : 1 ≤ length edges
  pub least : IsHingeTriple d halves (slice_index edges 0) form
  pub all : IsListing (IsEdgeOf d halves form) edges
  pub line : IsWallLine d halves form
