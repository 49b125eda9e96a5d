-- Serves clauses of private functions alone: lists of walls, as they are found one hinge after another.
use Rattle.std.specs.Prelude.{◌≡◌, ℕ, ◌<◌, List, length, ⊤, Option, Some, None}
use Rattle.tri_core.specs.declared.half.Half.{Half}
use Rattle.hinge_form.specs.declared.wall.Wall.{Wall}
use Rattle.hinge_form.specs.Triples.{Triple, of_form}
use Rattle.hinge_form.specs.Lines.{IsMultiple}
use Rattle.hinge_form.specs.Walls.{IsWallLine, IsWall, IsListing}
use Rattle.parabola_region.specs.declared.hinge_list.Hinge.{Hinge}
use Rattle.parabola_region.specs.declared.fault.RegionFault.{RegionFault}
use Rattle.parabola_region.specs.declared.fault.RegionFault.TheVariants.{Wide, Memory}
use Rattle.parabola_region.specs.HingeLists.{form_at, edge_at}
use Rattle.parabola_region.specs.Stretches.{HasPointFor, IsWideFor}
use Rattle.parabola_region.specs.WallLists.{PlainWall, wall_at, form_of, edges_of, least_edge, IsCovered}

-- the walls of the first n hinges of a list
pub record AreWalls (d : ℕ) (halves : List Half) (forms : List Hinge) (n : ℕ) (walls : List PlainWall) : Type 0 where
  pub ascends : (i j : ℕ) → i < j → j < length walls → least_edge (wall_at walls i) < least_edge (wall_at walls j)
  pub each : (j : ℕ) → j < length walls → IsWall d halves (form_of walls j) (edges_of walls j)
  pub before : (j : ℕ) → j < length walls → (k : ℕ) × (k < n) × (least_edge (wall_at walls j) ≡ edge_at forms k)
  pub covered : (k : ℕ) → k < n → IsWallLine d halves (form_at forms k) → IsCovered walls (edge_at forms k)

-- edge h is that of one of the first n hinges whose form is a positive multiple of l
abbrev pub IsOwnBelow : ℕ → Triple → List Hinge → ℕ → ℕ → Type 0
IsOwnBelow d l forms n h = (k : ℕ) × (k < n) × IsMultiple d l (form_at forms k) × (edge_at forms k ≡ h)

-- a wall was found at hinge n, or there is none, or it was found before
abbrev pub IsFound : ℕ → List Half → List Hinge → ℕ → List PlainWall → Option Wall → Type 0
IsFound d halves forms n walls None = IsWallLine d halves (form_at forms n) → IsCovered walls (edge_at forms n)
IsFound d halves forms n walls (Some wall) =
    HasPointFor d (form_at forms n) forms × ¬ (IsCovered walls (edge_at forms n)) × (of_form wall.form ≡ form_at forms n)
    × IsListing (IsOwnBelow d (form_at forms n) forms (length forms)) wall.edges.items

-- what a fault says of a line and the forms of a list
abbrev pub IsListFault : ℕ → Triple → List Hinge → RegionFault → Type 0
IsListFault d l forms (Wide formula) = IsWideFor d l forms formula
IsListFault d l forms Memory = ⊤
