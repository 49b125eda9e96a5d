-- Where a step of the flipping lies outside 128 bits.
use Rattle.std.specs.Prelude.{◌≡◌, ◌⊎◌, ℕ, ◌<◌, List}
use Rattle.quad_field.specs.declared.formula.Formula.{Formula}
use Rattle.quad_field.specs.declared.formula.Formula.TheVariants.{F2, F8, F12}
use Rattle.tri_core.specs.declared.half.Half.{Half}
use Rattle.tri_core.specs.Flips.{IsEdge, DiagonalFits}
use Rattle.hinge_form.specs.Hinges.{Triple, IsHingeTriple, TripleFits, PlaceFits}
use Rattle.delaunay_flip.specs.Flipping.{IsNegative, IsLeast, AfterFlips}

-- no step of the value of the hinge triple of h lies outside i128
abbrev pub ValueFitsAt : ℕ → Triple → List Half → ℕ → Type 0
ValueFitsAt d q halves h = (l : Triple) → IsHingeTriple d halves h l → PlaceFits d l q

-- edge h fits: no step of its hinge triple and of its value lies outside i128
abbrev pub EdgeFits : ℕ → Triple → List Half → ℕ → Type 0
EdgeFits d q halves h = TripleFits d halves h × ValueFitsAt d q halves h

-- every edge fits
abbrev pub EdgesFit : ℕ → Triple → List Half → Type 0
EdgesFit d q halves = (h : ℕ) → IsEdge halves h → EdgeFits d q halves h

-- no step of the new diagonal of the next flip lies outside i128
abbrev pub FlipFits : ℕ → Triple → List Half → Type 0
FlipFits d q halves = (h : ℕ) → IsLeast (IsNegative d q halves) h → DiagonalFits d halves h

-- nothing is wide in the first n triangulations and their flips
abbrev pub FitsBefore : ℕ → Triple → List Half → ℕ → Type 0
FitsBefore d q halves n =
    (m : ℕ) (between : List Half) → m < n → AfterFlips d q m halves between → EdgesFit d q between × FlipFits d q between

-- the first formula that is wide at edge h: the hinge triple's, or else the value's
abbrev pub IsFirstWide : ℕ → Triple → List Half → ℕ → Formula → Type 0
IsFirstWide d q halves h formula =
    ((formula ≡ F2) × ¬ (TripleFits d halves h)) ⊎ ((formula ≡ F8) × TripleFits d halves h × ¬ (ValueFitsAt d q halves h))

-- h is the least edge that doesn't fit, and the formula is the first that is wide there
abbrev pub IsWideEdge : ℕ → Triple → List Half → Formula → ℕ → Type 0
IsWideEdge d q halves formula h = IsLeast (λ k. IsEdge halves k × ¬ (EdgeFits d q halves k)) h × IsFirstWide d q halves h formula

-- h is the next edge to be flipped, and the formula is that of the new diagonal, which is wide there
abbrev pub IsWideFlip : ℕ → Triple → List Half → Formula → ℕ → Type 0
IsWideFlip d q halves formula h = (formula ≡ F12) × IsLeast (IsNegative d q halves) h × ¬ (DiagonalFits d halves h)

-- a width is met: at the least edge that doesn't fit; or, where all edges fit and a flip may be made, at the edge to be flipped
abbrev pub IsWideAt : ℕ → Triple → List Half → Type 0 → Formula → ℕ → Type 0
IsWideAt d q halves may_flip formula h = IsWideEdge d q halves formula h ⊎ (EdgesFit d q halves × may_flip × IsWideFlip d q halves formula h)
