-- Lines of half-plane points: the forms that have one line, where a line has points, and where two lines cross.
use Rattle.std.specs.Prelude.{◌≡◌, ℕ}
use Rattle.rings.specs.Forms.{value_at, discriminant}
use Rattle.rings.specs.Lines.{crossing_point, opposite_triple, IsPositiveMultiple}
use Rattle.quad_field.specs.Quads.{quad_ops, IsPositive}
use Rattle.quad_field.specs.Width.{term_ops, StepsFit}
use Rattle.quad_field.specs.declared.formula.Formula.{Formula}
use Rattle.quad_field.specs.declared.formula.Formula.TheVariants.{F5, F9}
use Rattle.hinge_form.specs.declared.lines.Relation.{Relation}
use Rattle.hinge_form.specs.declared.lines.Relation.TheVariants.{Same, Opposite, Apart}
use Rattle.hinge_form.specs.Triples.{Triple, zeros, leaves, IsReduced, AllThreeFit}

-- k is a positive multiple of l over the field: m·k = n·l for some positive K-integers m and n
abbrev pub IsMultiple : ℕ → Triple → Triple → Type 0
IsMultiple d l k = IsPositiveMultiple (quad_ops d) (IsPositive d) l k

-- k is a negative multiple of l over the field
abbrev pub IsNegativeMultiple : ℕ → Triple → Triple → Type 0
IsNegativeMultiple d l k = IsMultiple d l (opposite_triple (quad_ops d) k)

-- how the lines of two forms lie: the second form is a positive multiple of the first, a negative one, or neither
abbrev pub IsRelated : ℕ → Triple → Triple → Relation → Type 0
IsRelated d l k Same = IsMultiple d l k
IsRelated d l k Opposite = IsNegativeMultiple d l k
IsRelated d l k Apart = ¬ (IsMultiple d l k) × ¬ (IsNegativeMultiple d l k)

-- the line of l meets the inside of the parabola: β² - 4αγ > 0
abbrev pub HasChord : ℕ → Triple → Type 0
HasChord d l = IsPositive d (discriminant (quad_ops d) l)

-- the lines of two forms don't cross in one point: the three components of their crossing point are zero
abbrev pub AreParallel : ℕ → Triple → Triple → Type 0
AreParallel d l k = crossing_point (quad_ops d) l k ≡ zeros

-- x is the crossing point of two lines that aren't parallel, with its common divisor taken out
pub record IsCrossing (d : ℕ) (l k x : Triple) : Type 0 where
  pub apart : ¬ (AreParallel d l k)
  pub point : IsReduced (crossing_point (quad_ops d) l k) x

-- no step of the crossing point of two lines lies outside i128
abbrev pub CrossingFits : ℕ → Triple → Triple → Type 0
CrossingFits d l k = AllThreeFit d (crossing_point term_ops (leaves l) (leaves k))

-- no step of the direction of a multiple, (α1·α2 + β1·β2) + γ1·γ2, lies outside i128
abbrev pub DirectionFits : ℕ → Triple → Triple → Type 0
DirectionFits d l k = StepsFit d (value_at term_ops (leaves l) (leaves k))

-- what keeps the relation of two lines from being found: their crossing point is wide, or they are parallel and their direction is
abbrev pub IsWideBetween : ℕ → Triple → Triple → Formula → Type 0
IsWideBetween d l k F5 = ¬ (CrossingFits d l k)
IsWideBetween d l k F9 = CrossingFits d l k × AreParallel d l k × ¬ (DirectionFits d l k)
IsWideBetween d l k other = ⊥
