-- Ordered rings, by their positive elements.
use Rattle.std.specs.Prelude.{◌≡◌, ℤ, pos, ◌<ℤ◌, ◌⊎◌}
use Rattle.rings.specs.Ring.{Ops}

-- zero, positive or negative, where P says which elements are positive
pub data Sign {R : Type 0} (O : Ops R) (P : R → Type 0) (a : R) : Type 0 where
  is_zero : a ≡ O.int (pos 0) → Sign O P a
  is_positive : P a → Sign O P a
  is_negative : P (O.neg a) → Sign O P a

-- an order of a ring: sums and products of positive elements are positive, zero isn't, and of any other element
-- it or its negative is
pub record IsOrdered {R : Type 0} (O : Ops R) (P : R → Type 0) : Type 0 where
  pub sum : (a b : R) → P a → P b → P (O.add a b)
  pub product : (a b : R) → P a → P b → P (O.mul a b)
  pub sign : (a : R) → Sign O P a
  pub zero_is_not : ¬ (P (O.int (pos 0)))

-- zero or positive
abbrev pub IsNotNegative : {R : Type 0} → Ops R → (R → Type 0) → R → Type 0
IsNotNegative O P a = (a ≡ O.int (pos 0)) ⊎ P a

-- the positive whole numbers
abbrev pub IsWholePositive : ℤ → Type 0
IsWholePositive n = pos 0 <ℤ n

-- a < b: the difference b - a is positive
abbrev pub IsLess : {R : Type 0} → Ops R → (R → Type 0) → R → R → Type 0
IsLess O P a b = P (O.sub b a)

-- exactly one of three facts holds
abbrev pub ExactlyOne : Type 0 → Type 0 → Type 0 → Type 0
ExactlyOne A B C = (A ⊎ (B ⊎ C)) × ¬ (A × B) × ¬ (A × C) × ¬ (B × C)
