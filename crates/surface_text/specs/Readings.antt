-- For private contracts alone: what bytes are read as.
use Rattle.std.specs.Prelude.{codes, ◌++◌, ◌≡◌, List, ℕ, suc, ℤ, pos, negsuc, ◌≤ℤ◌}
use Rattle.surface_text.specs.declared.file.Point.{Point}
use Rattle.surface_text.specs.declared.fractions.Fraction.{Fraction}
use Rattle.plane.specs.Spelling.{natural_text}
use Rattle.surface_text.specs.Spelling.{denominator_text, fraction_text, point_text}
use Rattle.surface_text.specs.Limits.{IsFraction, HasFractions, IsBounded}
use Rattle.surface_text.specs.declared.fronts.Reading.{Reading}
use Rattle.surface_text.specs.declared.fronts.Reading.TheVariants as reading

-- a value that is spelled and within its bounds, and the only one that is spelled
pub record IsTheOne {X : Type 0} (Spells Fits : X → Type 0) (x : X) : Type 0 where
  pub found : Spells x
  pub fits : Fits x
  pub only : (y : X) → Spells y → y ≡ x

-- a value that is spelled but not within its bounds
pub record IsOneBeyond {X : Type 0} (Spells Fits : X → Type 0) : Type 0 where
  pub x : X
  pub found : Spells x
  pub beyond : (y : X) → Spells y → ¬ (Fits y)

-- bytes are read as the one value that they spell, as one beyond the bounds, or as none
abbrev pub IsReading : {X : Type 0} → (X → Type 0) → (X → Type 0) → Reading X → Type 0
IsReading Spells Fits (reading.Value x) = IsTheOne Spells Fits x
IsReading Spells Fits reading.Large = IsOneBeyond Spells Fits
IsReading {X} Spells Fits reading.Not = (x : X) → ¬ (Spells x)

-- n is below 0, and the digits are those of -n
abbrev pub IsNegative : List ℕ → ℤ → Type 0
IsNegative digits (pos n) = ⊥
IsNegative digits (negsuc n) = digits ≡ natural_text (suc n)

-- what follows a numerator spells this denominator
abbrev pub IsDenominator : List ℕ → ℤ → Type 0
IsDenominator bytes d = (bytes ≡ denominator_text d) × (pos 1 ≤ℤ d)

-- the bytes spell this fraction, which has the form of one
abbrev pub IsFractionOf : List ℕ → Fraction → Type 0
IsFractionOf bytes f = (bytes ≡ fraction_text f.n f.d) × IsFraction f.n f.d

-- numerator and denominator are bounded
abbrev pub IsBoundedFraction : Fraction → Type 0
IsBoundedFraction f = IsBounded f.n × IsBounded f.d

-- the bytes spell this base point, whose fractions have their form
abbrev pub IsPointOf : List ℕ → Point → Type 0
IsPointOf bytes at = (bytes ≡ point_text at) × HasFractions at

-- what follows the word of a base line spells this point, whose fractions have their form
abbrev pub IsTailPoint : List ℕ → Point → Type 0
IsTailPoint tail at = (tail ≡ codes " " ++ point_text at) × HasFractions at
