-- For private contracts alone: what the sides of a polygon line are read as.
use Rattle.std.specs.Prelude.{◌≡◌, ℕ, ◌≤◌, List, length, ⊤}
use Rattle.std.specs.List.{AllByRecursion}
use Rattle.plane.specs.declared.vec2.Vec2.{Vec2}
use Rattle.surface_text.specs.declared.cause.Cause.{Cause}
use Rattle.surface_text.specs.declared.cause.Cause.TheVariants.{BadForm, BadNumber}
use Rattle.surface_text.specs.declared.sides.LineFault.{LineFault}
use Rattle.surface_text.specs.declared.sides.LineFault.TheVariants as fault
use Rattle.surface_text.specs.Spelling.{sides_text}
use Rattle.surface_text.specs.Limits.{IsBoundedVector}
use Rattle.surface_text.specs.Readings.{IsOneBeyond}

-- what follows the word of a polygon line spells these sides, at least one
abbrev pub AreSides : List ℕ → List Vec2 → Type 0
AreSides tail sides = (tail ≡ sides_text sides) × (1 ≤ length sides)

-- sides are refused where none are spelled, or where a number is too large
abbrev pub AreSidesBad : List ℕ → Cause → Type 0
AreSidesBad tail BadForm = (sides : List Vec2) → ¬ (AreSides tail sides)
AreSidesBad tail BadNumber = IsOneBeyond (AreSides tail) (AllByRecursion IsBoundedVector)
AreSidesBad tail cause = ⊥

-- a refusal of sides names its cause; want of memory says nothing
abbrev pub AreSidesRefused : List ℕ → LineFault → Type 0
AreSidesRefused tail (fault.Bad cause) = AreSidesBad tail cause
AreSidesRefused tail fault.Memory = ⊤
