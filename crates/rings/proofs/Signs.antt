-- Zero, not negative, not positive: what follows of each, in every ordered ring.
use Rattle.std.proofs.Common.{◌≡◌, ℕ, zero, suc, [], ◌∷◌, subst, ap, ◌∙◌, refl}
use mathlib.Core.Logic.{inl, inr}
use Rattle.std.specs.Prelude.{pos, ◌⊎◌}
use Rattle.rings.specs.Ring.{Ops, IsRing, var, expr}
use Rattle.rings.specs.Order.{IsOrdered, Sign, is_zero, is_positive, is_negative, IsNotNegative}
use Rattle.rings.proofs.Solver.{identity}
use Rattle.rings.proofs.Ordered.{factor, factor_zero, no_divisors, not_both_signs, whole_positive}
open expr use {mul as ◌*'◌, neg as neg', int as int'}

infixl 70 ◌*'◌
module _ {R : Type 0} (O : Ops R) (L : IsRing O) {P : R → Type 0} (Q : IsOrdered O P) where
  open O use {mul as ◌⊗◌, neg as minus, int as num_of}

  infixl 70 ◌⊗◌
  abbrev Z : R
  Z = num_of (pos 0)

  abbrev NotNegative : R → Type 0
  NotNegative a = IsNotNegative O P a

  abbrev NotPositive : R → Type 0
  NotPositive a = IsNotNegative O P (minus a)

  -- ---- zero
  pub minus_zero : minus Z ≡ Z
  minus_zero = identity O L [] (neg' (int' (pos 0))) (int' (pos 0)) tt

  pub zero_not_positive : (a : R) → a ≡ Z → NotPositive a
  zero_not_positive a e = inl (ap minus e ∙ minus_zero)

  -- zero is neither positive nor negative
  pub never_positive : {A : Type 0} (a : R) → a ≡ Z → P a → A
  never_positive a e p = absurd (Q.zero_is_not (subst P e p))

  pub never_negative : {A : Type 0} (a : R) → a ≡ Z → P (minus a) → A
  never_negative a e p = absurd (Q.zero_is_not (subst P (ap minus e ∙ minus_zero) p))

  pub not_zero : (a : R) → P a → ¬ (a ≡ Z)
  not_zero a p e = never_positive a e p

  pub negative_not_zero : (a : R) → P (minus a) → ¬ (a ≡ Z)
  negative_not_zero a p e = never_negative a e p

  -- ---- zero or positive
  -- a value that is not negative isn't negative
  pub never_below : {A : Type 0} (a : R) → NotNegative a → P (minus a) → A
  never_below a (inl e) q = never_negative a e q
  never_below a (inr p) q = not_both_signs O L Q a p q

  -- and one that is not positive isn't positive
  pub never_above : {A : Type 0} (a : R) → NotPositive a → P a → A
  never_above a n p = never_below (minus a) n (subst P (identity O L (a ∷ []) (var 0) (neg' (neg' (var 0))) tt) p)

  pub not_positive : (a : R) → ¬ (P a) → NotPositive a
  not_positive a h = go (Q.sign a)
    where
      go : Sign O P a → NotPositive a
      go (is_zero e) = zero_not_positive a e
      go (is_positive p) = absurd (h p)
      go (is_negative p) = inr p

  pub not_negative_or : (a : R) → NotNegative a ⊎ P (minus a)
  not_negative_or a = go (Q.sign a)
    where
      go : Sign O P a → NotNegative a ⊎ P (minus a)
      go (is_zero e) = inl (inl e)
      go (is_positive p) = inl (inr p)
      go (is_negative p) = inr p

  -- what is neither negative nor positive is zero
  pub zero_between : (a : R) → NotNegative a → NotPositive a → a ≡ Z
  zero_between a (inl z) n = z
  zero_between a (inr p) n = never_above a n p

  -- no natural number is negative, where some value is positive
  pub natural : (some : R) → P some → (n : ℕ) → NotNegative (num_of (pos n))
  natural some p zero = inl refl
  natural some p (suc n) = inr (whole_positive O L Q some p n)

  -- ---- factors
  -- a factor of a value that is not negative, with a positive value
  pub factor_not_negative : (a b : R) → NotNegative (a ⊗ b) → P b → NotNegative a
  factor_not_negative a b (inl e) q = inl (factor_zero O L Q a b e q)
  factor_not_negative a b (inr p) q = inr (factor O L Q a b p q)

  pub product_zero : (a b : R) → a ≡ Z → a ⊗ b ≡ Z
  product_zero a b e = ap (λ x. x ⊗ b) e ∙ identity O L (b ∷ []) (int' (pos 0) *' var 0) (int' (pos 0)) tt

  pub product_zero_second : (a b : R) → b ≡ Z → a ⊗ b ≡ Z
  product_zero_second a b e = L.mul_comm a b ∙ product_zero b a e

  pub zero_product_first : (a b : R) → ¬ (b ≡ Z) → a ⊗ b ≡ Z → a ≡ Z
  zero_product_first a b some e = go (no_divisors O L Q a b e)
    where
      go : (a ≡ Z) ⊎ (b ≡ Z) → a ≡ Z
      go (inl z) = z
      go (inr z) = absurd (some z)
