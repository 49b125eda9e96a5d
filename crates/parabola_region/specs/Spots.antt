-- Serves clauses of private functions alone: corners as they are found by the forms of a list, pair by pair.
use Rattle.std.specs.Prelude.{◌≡◌, ◌↔◌, ℕ, pos, ◌<◌, ◌⊎◌, IsTrue, List, length, Option, Some, None}
use Rattle.rings.specs.Forms.{inner_value, value_at}
use Rattle.rings.specs.Lines.{opposite_triple, IsClosed, IsForward}
use Rattle.quad_field.specs.Quads.{quad, quad_ops, IsPositive, IsZero}
use Rattle.quad_field.specs.declared.formula.Formula.{Formula}
use Rattle.quad_field.specs.declared.formula.Formula.TheVariants.{F5, F6, F7}
use Rattle.tri_core.specs.declared.half.Half.{Half}
use Rattle.hinge_form.specs.Triples.{Triple, of_place}
use Rattle.hinge_form.specs.Hinges.{PlaceFits}
use Rattle.hinge_form.specs.Lines.{IsCrossing, CrossingFits}
use Rattle.parabola_region.specs.declared.hinge_list.Hinge.{Hinge}
use Rattle.parabola_region.specs.declared.corner.Corner.{Corner}
use Rattle.parabola_region.specs.declared.corner.Spot.{Spot}
use Rattle.parabola_region.specs.declared.corner.Side.{Side}
use Rattle.parabola_region.specs.declared.corner.Side.TheVariants.{Forward, Backward, Neither}
use Rattle.parabola_region.specs.Chords.{InnerFits}
use Rattle.parabola_region.specs.HingeLists.{form_at}
use Rattle.parabola_region.specs.WallLists.{PlainWall, form_of}
use Rattle.parabola_region.specs.Corners.{NotNegative, IsCornerPoint, IsCornerAt, corner_at, ComesBefore, IsListed}

-- no form of a list is negative at a place
abbrev pub NoneNegative : ℕ → List Hinge → Triple → Type 0
NoneNegative d forms q = (i : ℕ) → i < length forms → NotNegative d (value_at (quad_ops d) (form_at forms i) q)

-- q is a corner of the lines of l and k by the forms of a list
pub record IsCornerFor (d : ℕ) (l k : Triple) (forms : List Hinge) (q : Triple) : Type 0 where
  pub crossing : IsCrossing d l k q ⊎ IsCrossing d k l q
  pub closed : IsClosed (quad_ops d) (IsPositive d) q
  pub values : NoneNegative d forms q

-- on which side of the zero place a place lies
abbrev pub IsSide : ℕ → Triple → Side → Type 0
IsSide d q Forward = IsForward (quad_ops d) (IsPositive d) q
IsSide d q Backward = IsForward (quad_ops d) (IsPositive d) (opposite_triple (quad_ops d) q)
IsSide d q Neither = (q.0 ≡ quad (pos 0) (pos 0)) × (q.2 ≡ quad (pos 0) (pos 0))

-- the corner at a forward place, if it is one
abbrev pub IsSpot : ℕ → List Hinge → Triple → Option Spot → Type 0
IsSpot d forms q None = ¬ (IsClosed (quad_ops d) (IsPositive d) q × NoneNegative d forms q)
IsSpot d forms q (Some spot) =
    (of_place spot.at ≡ q) × IsClosed (quad_ops d) (IsPositive d) q × NoneNegative d forms q × (IsTrue spot.ideal ↔ IsZero (inner_value (quad_ops d) q))

-- the corner of two lines, if there is one
abbrev pub IsCornerOf : ℕ → Triple → Triple → List Hinge → Option Spot → Type 0
IsCornerOf d l k forms None = (q : Triple) → ¬ (IsCornerFor d l k forms q)
IsCornerOf d l k forms (Some spot) = IsCornerFor d l k forms (of_place spot.at) × (IsTrue spot.ideal ↔ IsZero (inner_value (quad_ops d) (of_place spot.at)))

-- the formula is wide at a place and the forms of a list
abbrev pub IsWideAt : ℕ → List Hinge → Triple → Formula → Type 0
IsWideAt d forms q F6 = ¬ (InnerFits d q)
IsWideAt d forms q F7 = (i : ℕ) × (i < length forms) × ¬ (PlaceFits d (form_at forms i) q)
IsWideAt d forms q other = ⊥

-- the formula is wide at the crossing point of the lines of l and k, in either order
abbrev pub IsWideCorner : ℕ → Triple → Triple → List Hinge → Formula → Type 0
IsWideCorner d l k forms F5 = ¬ (CrossingFits d l k) ⊎ ¬ (CrossingFits d k l)
IsWideCorner d l k forms other = (q : Triple) × (IsCrossing d l k q ⊎ IsCrossing d k l q) × IsWideAt d forms q other

-- the corner of the walls i and j, where they have one
abbrev pub IsPair : ℕ → List Half → List PlainWall → ℕ → ℕ → Option Corner → Type 0
IsPair d halves walls i j None = (q : Triple) → ¬ (IsCornerPoint d halves (form_of walls i) (form_of walls j) q)
IsPair d halves walls i j (Some c) = IsCornerAt d halves walls i j c

-- the pair (a, b) of walls stands before (i, j)
abbrev pub IsEarlier : ℕ → ℕ → ℕ → ℕ → Type 0
IsEarlier a b i j = (a < i) ⊎ ((a ≡ i) × (b < j))

-- the corners of the pairs before (i, j)
pub record IsCornersTo (d : ℕ) (halves : List Half) (walls : List PlainWall) (i j : ℕ) (corners : List Corner) : Type 0 where
  pub ascends : (m n : ℕ) → m < n → n < length corners → ComesBefore (corner_at corners m) (corner_at corners n)
  pub order : (n : ℕ) → n < length corners → (corner_at corners n).first < (corner_at corners n).second
  pub inside : (n : ℕ) → n < length corners → (corner_at corners n).second < length walls
  pub each : (n : ℕ) → n < length corners → IsCornerAt d halves walls (corner_at corners n).first (corner_at corners n).second (corner_at corners n)
  pub before : (n : ℕ) → n < length corners → IsEarlier (corner_at corners n).first (corner_at corners n).second i j
  pub every : (a b : ℕ) → a < b → b < length walls → IsEarlier a b i j → (q : Triple) → IsCornerPoint d halves (form_of walls a) (form_of walls b) q → IsListed corners a b
