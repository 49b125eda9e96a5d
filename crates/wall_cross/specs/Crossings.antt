-- Crossing a wall of a triangulation, and what finitely many crossings reach (Bowman, iso-Delaunay tessellation).
use Rattle.std.specs.Prelude.{◌≡◌, ℕ, zero, suc, List, length}
use Rattle.std.specs.List.{Contains}
use Rattle.tri_core.specs.declared.half.Half.{Half}
use Rattle.tri_core.specs.Flips.{DiagonalFits}
use Rattle.tri_core.specs.SeveralFlips.{is_among, AreFlipped}
use Rattle.tri_core.specs.Images.{AreTranslationEqual}
use Rattle.hinge_form.specs.Triples.{Triple}
use Rattle.hinge_form.specs.Walls.{IsWall}

-- `later` are the half-edges after the flips at all edges of a list, whatever their order
abbrev pub AreAllFlipped : ℕ → List Half → List ℕ → List Half → Type 0
AreAllFlipped d halves edges later = AreFlipped d halves (is_among halves edges (length edges)) later

-- the wall with this form and these edges is crossed: `later` is translation-equal to the triangulation with all edges of the wall flipped
abbrev pub Crosses : ℕ → List Half → Triple → List ℕ → List Half → Type 0
Crosses d halves form edges later =
    IsWall d halves form edges × ((flipped : List Half) × AreAllFlipped d halves edges flipped × AreTranslationEqual d flipped later)

-- `later` lies behind a wall
abbrev pub LiesBehind : ℕ → List Half → List Half → Type 0
LiesBehind d halves later = (form : Triple) × (edges : List ℕ) × Crosses d halves form edges later

-- a path of n crossings leads from one triangulation to another
abbrev pub LeadsIn : ℕ → List Half → ℕ → List Half → Type 0
LeadsIn d from zero to = to ≡ from
LeadsIn d from (suc n) to = (between : List Half) × LeadsIn d from n between × LiesBehind d between to

-- finitely many crossings lead from one triangulation to another; none is a path to itself
abbrev pub IsReached : ℕ → List Half → List Half → Type 0
IsReached d from to = (n : ℕ) × LeadsIn d from n to

-- the other diagonal at each edge of a list, and its opposite, can be had without a wide step
abbrev pub DiagonalsFit : ℕ → List Half → List ℕ → Type 0
DiagonalsFit d halves edges = (h : ℕ) → Contains edges h → DiagonalFits d halves h
