-- Walks: paths of crossings through walls that are chosen by their numbers.
use Rattle.std.specs.Prelude.{◌≡◌, ℕ, zero, suc, ◌<◌, ◌≤◌, ⊤, List, length, slice_index}
use Rattle.quad_field.specs.declared.formula.Formula.{Formula}
use Rattle.quad_field.specs.declared.formula.Formula.TheVariants.{F12}
use Rattle.tri_core.specs.declared.half.Half.{Half}
use Rattle.parabola_region.specs.WallLists.{PlainWall, edges_of, IsWallList}
use Rattle.parabola_region.specs.Instances.{IsWideInstance}
use Rattle.wall_cross.specs.Crossings.{AreAllFlipped, DiagonalsFit}
use Rattle.path_walk.specs.declared.fault.WalkFault.{WalkFault}
use Rattle.path_walk.specs.declared.fault.WalkFault.TheVariants.{NoSuchWall, Wide, Memory}

-- something is so of the edges of wall number j of a triangulation, the walls in the order of their least edges
abbrev pub AtWall : ℕ → List Half → ℕ → (List ℕ → Type 0) → Type 0
AtWall d halves j P = (walls : List PlainWall) × IsWallList d halves walls × (j < length walls) × P (edges_of walls j)

-- `later` are the half-edges behind wall number j, whose new diagonals fit
abbrev pub LiesBehindWall : ℕ → List Half → ℕ → List Half → Type 0
LiesBehindWall d halves j later = AtWall d halves j (λ edges. DiagonalsFit d halves edges × AreAllFlipped d halves edges later)

-- a walk stands at `later` after its first n choices: each wall that is chosen was crossed
abbrev pub StandsAfter : ℕ → List Half → List ℕ → ℕ → List Half → Type 0
StandsAfter d from choices zero later = later ≡ from
StandsAfter d from choices (suc n) later =
    (between : List Half) × StandsAfter d from choices n between × LiesBehindWall d between (slice_index choices n) later

-- `end` is the end of a walk: it stands there after all its choices
abbrev pub IsEnd : ℕ → List Half → List ℕ → List Half → Type 0
IsEnd d from choices end = StandsAfter d from choices (length choices) end

-- something is so where a walk stands before the choice at a place, and of that choice
abbrev pub AtChoice : ℕ → List Half → List ℕ → ℕ → (List Half → ℕ → Type 0) → Type 0
AtChoice d from choices place P = (place < length choices) × ((at : List Half) × StandsAfter d from choices place at × P at (slice_index choices place))

-- there are at most so many walls
abbrev pub HasNoWall : ℕ → List Half → ℕ → Type 0
HasNoWall d halves j = (walls : List PlainWall) × IsWallList d halves walls × (length walls ≤ j)

-- the walk has no wall for the choice at this place
abbrev pub IsWithoutWall : ℕ → List Half → List ℕ → ℕ → Type 0
IsWithoutWall d from choices place = AtChoice d from choices place (HasNoWall d)

-- a formula is wide at the choice of wall number j: a new diagonal at one of its edges (F12), or an instance of the walls
abbrev pub IsWideChoice : Formula → ℕ → List Half → ℕ → Type 0
IsWideChoice F12 d halves j = AtWall d halves j (λ edges. ¬ (DiagonalsFit d halves edges))
IsWideChoice other d halves j = IsWideInstance d halves other

-- the formula is wide where the walk stands before the choice at this place
abbrev pub IsWideOnWalk : ℕ → List Half → List ℕ → Formula → ℕ → Type 0
IsWideOnWalk d from choices formula place = AtChoice d from choices place (IsWideChoice formula d)

-- what a fault says of a walk; want of memory says nothing
abbrev pub IsWalkFault : ℕ → List Half → List ℕ → WalkFault → Type 0
IsWalkFault d from choices (NoSuchWall place) = IsWithoutWall d from choices place
IsWalkFault d from choices (Wide formula place) = IsWideOnWalk d from choices formula place
IsWalkFault d from choices Memory = ⊤

-- what a fault at a place says of the choice of wall number j there
abbrev pub IsStepFault : ℕ → List Half → ℕ → ℕ → WalkFault → Type 0
IsStepFault d halves j place (NoSuchWall at) = (at ≡ place) × HasNoWall d halves j
IsStepFault d halves j place (Wide formula at) = (at ≡ place) × IsWideChoice formula d halves j
IsStepFault d halves j place Memory = ⊤
