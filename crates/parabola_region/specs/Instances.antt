-- The formula instances of a triangulation: where a number may be too wide for its walls and corners.
use Rattle.std.specs.Prelude.{ℕ, ⊤, List}
use Rattle.quad_field.specs.declared.formula.Formula.{Formula}
use Rattle.quad_field.specs.declared.formula.Formula.TheVariants.{F2, F3, F4, F5, F6, F7, F8, F9}
use Rattle.tri_core.specs.declared.half.Half.{Half}
use Rattle.tri_core.specs.Flips.{IsEdge}
use Rattle.hinge_form.specs.Triples.{Triple}
use Rattle.hinge_form.specs.Hinges.{IsHingeTriple, TripleFits, PlaceFits}
use Rattle.hinge_form.specs.Lines.{HasChord, IsCrossing, CrossingFits, DirectionFits}
use Rattle.parabola_region.specs.Chords.{IsChordPoint, ChordTestFits, ChordPointFits, InnerFits}
use Rattle.parabola_region.specs.declared.fault.RegionFault.{RegionFault}
use Rattle.parabola_region.specs.declared.fault.RegionFault.TheVariants.{Wide, Memory}

-- something is so of the hinge triple of some edge
abbrev pub AtTriple : ℕ → List Half → (Triple → Type 0) → Type 0
AtTriple d halves A = (h : ℕ) × (l : Triple) × IsEdge halves h × IsHingeTriple d halves h l × A l

-- something is so of the crossing point of two hinge triples' lines that aren't parallel, in either order
abbrev pub AtCrossing : ℕ → List Half → (Triple → Type 0) → Type 0
AtCrossing d halves A = AtTriple d halves (λ l. AtTriple d halves (λ k. (x : Triple) × IsCrossing d l k x × A x))

-- something is so of the chord point of a hinge triple's line that has a chord
abbrev pub AtChordPoint : ℕ → List Half → (Triple → Type 0) → Type 0
AtChordPoint d halves A = AtTriple d halves (λ l. HasChord d l × ((x : Triple) × IsChordPoint d l x × A x))

-- the formula is wide at an instance of the triangulation: the hinge triple of an edge (F2); the chord test of a triple (F3), and its
-- chord point where it has a chord (F4); the crossing point (F5) and the direction (F9) of two triples; the inner test of a crossing
-- point (F6); the value of a triple at a crossing point (F7), and at a chord point (F8)
abbrev pub IsWideInstance : ℕ → List Half → Formula → Type 0
IsWideInstance d halves F2 = (h : ℕ) × IsEdge halves h × ¬ (TripleFits d halves h)
IsWideInstance d halves F3 = AtTriple d halves (λ l. ¬ (ChordTestFits d l))
IsWideInstance d halves F4 = AtTriple d halves (λ l. HasChord d l × ¬ (ChordPointFits d l))
IsWideInstance d halves F5 = AtTriple d halves (λ l. AtTriple d halves (λ k. ¬ (CrossingFits d l k)))
IsWideInstance d halves F6 = AtCrossing d halves (λ x. ¬ (InnerFits d x))
IsWideInstance d halves F7 = AtCrossing d halves (λ x. AtTriple d halves (λ k. ¬ (PlaceFits d k x)))
IsWideInstance d halves F8 = AtChordPoint d halves (λ x. AtTriple d halves (λ k. ¬ (PlaceFits d k x)))
IsWideInstance d halves F9 = AtTriple d halves (λ l. AtTriple d halves (λ k. ¬ (DirectionFits d l k)))
IsWideInstance d halves other = ⊥

-- what a fault says of a triangulation: its formula is wide at an instance; want of memory says nothing
abbrev pub IsRegionFault : ℕ → List Half → RegionFault → Type 0
IsRegionFault d halves (Wide formula) = IsWideInstance d halves formula
IsRegionFault d halves Memory = ⊤
