-- For private contracts alone: half-edges made of numbers.
use Rattle.std.specs.Prelude.{◌≡◌, ℕ, ℤ, pos, ◌+◌, ◌*◌, ◌<◌, List, [], ◌∷◌, ◌++◌, ⊤}
use Rattle.tri_core.specs.declared.half.Half.{Half}
use Rattle.tri_core.specs.declared.tri.BadTri.{BadTri}
use Rattle.tri_core.specs.declared.tri.BadTri.TheVariants as bad_tri
use Rattle.canon_code.specs.declared.fault.CodeFault.{CodeFault}
use Rattle.canon_code.specs.declared.fault.CodeFault.TheVariants.{Form, NotCode, Wide, Memory}
use Rattle.canon_code.specs.Canonical.{number_at, side_from, canonical_half, PairFits}
use Rattle.canon_code.specs.Refusals.{IsCodeOver, IsWideCause}

-- a number that may be that of a twin
abbrev pub IsTwinNumber : ℤ → Type 0
IsTwinNumber z = (n : ℕ) × (z ≡ pos n) × (n < 768)

-- so may the numbers of the three twins of triangle t
pub record HasTwins (numbers : List ℤ) (t : ℕ) : Type 0 where
  pub first : IsTwinNumber (number_at numbers (2 + 11 * t + 8))
  pub second : IsTwinNumber (number_at numbers (2 + 11 * t + 9))
  pub third : IsTwinNumber (number_at numbers (2 + 11 * t + 10))

-- the third vector of triangle t fits
abbrev pub HasThird : List ℤ → ℕ → Type 0
HasThird numbers t = PairFits (side_from 0 numbers (2 + 11 * t) 2)

-- half-edges, and those of triangle t behind them
abbrev pub with_triangle : List ℤ → List Half → ℕ → List Half
with_triangle numbers halves t =
    ((halves ++ canonical_half 0 numbers (3 * t) ∷ []) ++ canonical_half 0 numbers (3 * t + 1) ∷ []) ++ canonical_half 0 numbers (3 * t + 2) ∷ []

-- the cause of a refusal to make a triangulation of numbers
abbrev pub IsListingFault : ℕ → List ℤ → CodeFault → Type 0
IsListingFault d numbers Form = ⊥
IsListingFault d numbers NotCode = ¬ (IsCodeOver d numbers)
IsListingFault d numbers (Wide formula) = IsWideCause d numbers formula
IsListingFault d numbers Memory = ⊤

-- the refusal of numbers for that of their half-edges
abbrev pub IsFaultOf : BadTri → CodeFault → Type 0
IsFaultOf (bad_tri.Wide formula) fault = fault ≡ Wide formula
IsFaultOf bad_tri.Memory fault = fault ≡ Memory
IsFaultOf bad fault = fault ≡ NotCode
