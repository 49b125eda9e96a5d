-- For private contracts alone: what a base line is refused for.
use Rattle.std.specs.Prelude.{ℕ, ◌≤◌, List}
use Rattle.surface_text.specs.declared.cause.Cause.{Cause}
use Rattle.surface_text.specs.declared.cause.Cause.TheVariants.{BadForm, BadNumber, BadBase, ManyBases}
use Rattle.surface_text.specs.declared.file.Point.{Point}
use Rattle.surface_text.specs.Limits.{IsBoundedPoint, IsAbove}
use Rattle.surface_text.specs.Readings.{IsTheOne, IsOneBeyond, IsTailPoint}

-- a base line with this tail, behind so many base lines, is refused for this cause
abbrev pub IsBaseBad : List ℕ → ℕ → Cause → Type 0
IsBaseBad tail bases BadForm = (at : Point) → ¬ (IsTailPoint tail at)
IsBaseBad tail bases BadNumber = IsOneBeyond (IsTailPoint tail) IsBoundedPoint
IsBaseBad tail bases BadBase = (at : Point) × IsTheOne (IsTailPoint tail) IsBoundedPoint at × ¬ (IsAbove at)
IsBaseBad tail bases ManyBases = (at : Point) × IsTheOne (IsTailPoint tail) IsBoundedPoint at × IsAbove at × (8 ≤ bases)
IsBaseBad tail bases cause = ⊥
