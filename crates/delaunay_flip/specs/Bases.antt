-- How the flipping of a triangulation ends at a point, and over a list of points.
use Rattle.std.specs.Prelude.{◌≡◌, ℕ, ◌<◌, ◌≤◌, ◌⊎◌, List, [], ◌∷◌, ⊤}
use Rattle.quad_field.specs.declared.formula.Formula.{Formula}
use Rattle.surface_text.specs.declared.file.Point.{Point}
use Rattle.tri_core.specs.declared.half.Half.{Half}
use Rattle.hinge_form.specs.Hinges.{Triple, place_at, IsStrictAt}
use Rattle.delaunay_flip.specs.Flipping.{IsNegative, IsZeroAt, IsLeast, IsDelaunay, AfterFlips}
use Rattle.delaunay_flip.specs.Widths.{EdgesFit, FitsBefore, IsWideAt}

-- how the flipping of a triangulation at a point ends
pub data Ending : Type 0 where
  -- in this strict triangulation, after this many flips
  strict : List Half → ℕ → Ending
  -- in a triangulation without a negative value that isn't strict: the least edge of value zero
  not_strict : ℕ → Ending
  -- with a negative value that is left after all flips
  flips_ended : Ending
  -- with a wide formula, after this many flips, at this edge
  wide : Formula → ℕ → ℕ → Ending

-- `later` comes of `halves` by n of at most `most` flips, and nothing is wide before it
pub record Comes (d : ℕ) (q : Triple) (halves : List Half) (most n : ℕ) (later : List Half) : Type 0 where
  pub within : n ≤ most
  pub after : AfterFlips d q n halves later
  pub fits : FitsBefore d q halves n

-- after n of at most `most` flips the flipping stops at `later`, with this ending
abbrev pub Stops : ℕ → Triple → ℕ → ℕ → List Half → Ending → Type 0
Stops d q most n later (Ending.strict last m) = (last ≡ later) × (m ≡ n) × EdgesFit d q later × IsStrictAt d later q
Stops d q most n later (Ending.not_strict h) = EdgesFit d q later × IsDelaunay d q later × IsLeast (IsZeroAt d q later) h
Stops d q most n later Ending.flips_ended = (n ≡ most) × EdgesFit d q later × ((h : ℕ) × IsNegative d q later h)
Stops d q most n later (Ending.wide formula m h) = (m ≡ n) × IsWideAt d q later (n < most) formula h

-- flipping at this point, at most `most` times, ends so: some triangulation comes of the flips, and the flipping stops there
abbrev pub EndsAt : ℕ → List Half → Point → ℕ → Ending → Type 0
EndsAt d halves at most ending =
    (n : ℕ) × (later : List Half) × Comes d (place_at at) halves most n later × Stops d (place_at at) most n later ending

-- an ending other than in a triangulation without negative values that isn't strict
abbrev pub IsDecisive : Ending → Type 0
IsDecisive (Ending.not_strict h) = ⊥
IsDecisive other = ⊤

-- how a list of points ends, tried in order: the first decisive ending, at its point; where there is none, the last point's
abbrev pub EndsListed : ℕ → List Half → List Point → ℕ → Point → Ending → Type 0
EndsListed d halves [] most at ending = ⊥
EndsListed d halves (point ∷ []) most at ending = (at ≡ point) × EndsAt d halves point most ending
EndsListed d halves (point ∷ next ∷ points) most at ending =
    ((at ≡ point) × EndsAt d halves point most ending × IsDecisive ending)
    ⊎ (((h : ℕ) × EndsAt d halves point most (Ending.not_strict h)) × EndsListed d halves (next ∷ points) most at ending)
