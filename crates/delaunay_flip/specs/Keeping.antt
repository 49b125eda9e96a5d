-- Triangulations that are kept with the values of their edges at a point.
use Rattle.std.specs.Prelude.{ℕ, ◌⊎◌, List, ⊤}
use Rattle.surface_text.specs.declared.file.Point.{Point}
use Rattle.surface_text.specs.Limits.{IsBasePoint}
use Rattle.tri_core.specs.declared.half.Half.{Half}
use Rattle.tri_core.specs.Triangulation.{Triangulation}
use Rattle.hinge_form.specs.Hinges.{Triple, place_at}
use Rattle.delaunay_flip.specs.declared.kept.KeptFault.{KeptFault}
use Rattle.delaunay_flip.specs.declared.kept.KeptFault.TheVariants.{Wide, Memory}
use Rattle.delaunay_flip.specs.Flipping.{IsNextFlip}
use Rattle.delaunay_flip.specs.Widths.{EdgesFit, FlipFits, IsWideEdge, IsWideFlip}

-- what contracts see of a triangulation that is kept at a point
pub record KeptAt : Type 0 where
  pub tri : Triangulation
  pub point : Point

-- what is known of it: the point is a base point, and every edge fits there
pub record IsKept (kept : KeptAt) : Type 0 where
  pub base : IsBasePoint kept.point
  pub fits : EdgesFit kept.tri.field (place_at kept.point) kept.tri.halves

-- why a triangulation isn't kept at a place: a formula is wide at an edge, or memory ran out
abbrev pub IsNotKept : ℕ → Triple → List Half → KeptFault → Type 0
IsNotKept d q halves (Wide formula h) = IsWideEdge d q halves formula h
IsNotKept d q halves Memory = ⊤

-- why it isn't flipped: the new diagonal is wide, or a formula is wide at an edge after the flip, or memory ran out
abbrev pub IsNotFlipped : ℕ → Triple → List Half → KeptFault → Type 0
IsNotFlipped d q halves (Wide formula h) =
    IsWideFlip d q halves formula h ⊎ (FlipFits d q halves × ((later : List Half) × IsNextFlip d q halves later × IsWideEdge d q later formula h))
IsNotFlipped d q halves Memory = ⊤
