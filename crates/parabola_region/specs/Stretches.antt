-- Serves clauses of private functions alone: the stretch of a line's chord on which forms are positive, as it is found one form after another.
use Rattle.std.specs.Prelude.{◌≡◌, ℕ, pos, ◌<◌, ◌⊎◌, Bool, true, false, List, length}
use Rattle.rings.specs.Forms.{value_at}
use Rattle.rings.specs.Lines.{opposite_triple}
use Rattle.rings.specs.Bounds.{rate, HasPoint, AtStart, AtBound, IsBehind}
use Rattle.quad_field.specs.declared.quad.Quad.{Quad}
use Rattle.quad_field.specs.Quads.{quad, quad_ops, IsPositive}
use Rattle.quad_field.specs.declared.formula.Formula.{Formula}
use Rattle.quad_field.specs.declared.formula.Formula.TheVariants.{F5, F6, F7, F8, F9}
use Rattle.hinge_form.specs.Triples.{Triple, of_form, of_place}
use Rattle.hinge_form.specs.Hinges.{PlaceFits}
use Rattle.hinge_form.specs.Lines.{HasChord, AreParallel, IsMultiple, IsCrossing, CrossingFits, DirectionFits}
use Rattle.parabola_region.specs.Chords.{IsChordPoint, InnerFits}
use Rattle.parabola_region.specs.HingeLists.{form_at}
use Rattle.parabola_region.specs.declared.hinge_list.Hinge.{Hinge}
use Rattle.parabola_region.specs.declared.meeting.Bound.{Bound}
use Rattle.parabola_region.specs.declared.meeting.Meeting.{Meeting}
use Rattle.parabola_region.specs.declared.meeting.Meeting.TheVariants.{Own, Never, At}
use Rattle.parabola_region.specs.declared.stretch.Stretch.{Stretch}
use Rattle.parabola_region.specs.declared.stretch.Stretch.TheVariants.{Whole, Behind, Empty}

-- a place, or its negative where it is turned
abbrev pub turned_place : ℕ → Bool → Triple → Triple
turned_place d true q = opposite_triple (quad_ops d) q
turned_place d false q = q

-- a number, or its negative where it is turned
abbrev pub turned_value : ℕ → Bool → Quad → Quad
turned_value d true x = (quad_ops d).neg x
turned_value d false x = x

-- the point of the line at which a bound vanishes
abbrev pub bound_point : ℕ → Bound → Triple
bound_point d bound = turned_place d bound.falls (of_place bound.at)

-- the bound of a form k on the line of l: their crossing point, with its first coordinate made positive
pub record IsBoundOf (d : ℕ) (l k : Triple) (bound : Bound) : Type 0 where
  pub form : of_form bound.form ≡ k
  pub crossing : IsCrossing d l k (of_place bound.at)
  pub forward : IsPositive d (bound_point d bound).0

-- how a form meets a line: it is a positive multiple; or it has no bound; or it has one
abbrev pub IsMeeting : ℕ → Triple → Triple → Meeting → Type 0
IsMeeting d l k Own = IsMultiple d l k
IsMeeting d l k Never =
    (AreParallel d l k × ¬ (IsMultiple d l k)) ⊎ ((¬ (AreParallel d l k)) × (rate (quad_ops d) l k ≡ quad (pos 0) (pos 0)))
IsMeeting d l k (At bound) = IsBoundOf d l k bound

-- the line has a half-plane point at which all forms of the list are positive that aren't positive multiples of it
abbrev pub HasPointFor : ℕ → Triple → List Hinge → Type 0
HasPointFor d l forms = HasPoint (quad_ops d) (IsPositive d) l (form_at forms) (length forms)

-- what form i alone leaves, from a start on: it is positive there or the line's own; or no point is left; or it isn't positive, and vanishes at its bound
abbrev pub IsLeftBy : ℕ → Triple → Triple → List Hinge → ℕ → Stretch → Type 0
IsLeftBy d l start forms i Whole = AtStart (quad_ops d) (IsPositive d) l start (form_at forms i)
IsLeftBy d l start forms i (Behind bound) = IsBoundOf d l (form_at forms i) bound × ¬ (IsPositive d (value_at (quad_ops d) (form_at forms i) start))
IsLeftBy d l start forms i Empty = ¬ (HasPointFor d l forms)

-- a bound of one of the first n forms, where no other of them of its direction is negative
pub record IsBoundFor (d : ℕ) (l start : Triple) (forms : List Hinge) (n : ℕ) (bound : Bound) : Type 0 where
  pub number : ℕ
  pub among : number < n
  pub inside : number < length forms
  pub bound_of : IsBoundOf d l (form_at forms number) bound
  pub behind : ¬ (IsPositive d (value_at (quad_ops d) (form_at forms number) start))
  pub all : (i : ℕ) → i < n → AtBound (quad_ops d) (IsPositive d) l start (form_at forms number) (bound_point d bound) (form_at forms i)

-- what the first n forms leave of the chord of l, from its start on: all are positive at the start; or a bound; or no point at all
abbrev pub IsStretch : ℕ → Triple → Triple → List Hinge → ℕ → Stretch → Type 0
IsStretch d l start forms n Whole = (i : ℕ) → i < n → AtStart (quad_ops d) (IsPositive d) l start (form_at forms i)
IsStretch d l start forms n (Behind bound) = IsBoundFor d l start forms n bound
IsStretch d l start forms n Empty = ¬ (HasPointFor d l forms)

-- whether form i is positive right behind a bound: if not, no point is left
abbrev pub IsBehindAt : ℕ → Triple → List Hinge → Bound → ℕ → Bool → Type 0
IsBehindAt d l forms bound i true = IsBehind (quad_ops d) (IsPositive d) l (of_form bound.form) (bound_point d bound) (form_at forms i)
IsBehindAt d l forms bound i false = ¬ (HasPointFor d l forms)

-- a start: the chord point of a line with a chord
abbrev pub IsStart : ℕ → Triple → Triple → Type 0
IsStart d l start = HasChord d l × IsChordPoint d l start

-- the formula is wide at an instance of the line l and the forms of a list
abbrev pub IsWideFor : ℕ → Triple → List Hinge → Formula → Type 0
IsWideFor d l forms F5 = (i : ℕ) × (i < length forms) × ¬ (CrossingFits d l (form_at forms i))
IsWideFor d l forms F6 = (i : ℕ) × (i < length forms) × ((x : Triple) × IsCrossing d l (form_at forms i) x × ¬ (InnerFits d x))
IsWideFor d l forms F7 =
    (i j : ℕ) × (i < length forms) × (j < length forms) × ((x : Triple) × IsCrossing d l (form_at forms i) x × ¬ (PlaceFits d (form_at forms j) x))
IsWideFor d l forms F8 = HasChord d l × ((i : ℕ) × (i < length forms) × ((x : Triple) × IsChordPoint d l x × ¬ (PlaceFits d (form_at forms i) x)))
IsWideFor d l forms F9 = (i : ℕ) × (i < length forms) × ¬ (DirectionFits d l (form_at forms i))
IsWideFor d l forms other = ⊥
