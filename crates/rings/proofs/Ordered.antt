-- Facts on positive values in an ordered ring. Each identity is the solver's.
use Rattle.std.proofs.Common.{◌≡◌, ◌+◌, arith, ℕ, zero, suc, [], ◌∷◌, subst, sym, ap, ◌∙◌}
use Rattle.std.specs.Prelude.{pos, ◌⊎◌, T}
use mathlib.Core.Logic.{inl, inr}
use Rattle.rings.specs.Ring.{Ops, IsRing, Expr, var, expr, look, eval}
use Rattle.rings.specs.Order.{IsOrdered, Sign, is_zero, is_positive, is_negative, IsNotNegative, IsLess}
use Rattle.rings.specs.NormalForm.{same}
use Rattle.rings.proofs.Solver.{solve, identity}
open expr use {add as ◌+'◌, sub as ◌-'◌, mul as ◌*'◌, neg as neg', int as int'}

infixl 60 ◌+'◌
infixl 60 ◌-'◌
infixl 70 ◌*'◌
-- 1 + (n + 1) is the next number
one_more : (n : ℕ) → 1 + suc n ≡ suc (suc n)
one_more n = omega arith

module _ {R : Type 0} (O : Ops R) (L : IsRing O) {P : R → Type 0} (Q : IsOrdered O P) where
  open O use {add as ◌⊕◌, sub as ◌⊖◌, mul as ◌⊗◌, neg as minus, int as num_of}

  infixl 60 ◌⊕◌
  infixl 60 ◌⊖◌
  infixl 70 ◌⊗◌
  -- two positive values whose sum is zero
  pub clash : {X : Type 0} (a b : R) → a ⊕ b ≡ num_of (pos 0) → P a → P b → X
  clash a b e p q = absurd (Q.zero_is_not (subst P e (Q.sum a b p q)))

  -- zero or positive
  abbrev NotNegative : R → Type 0
  NotNegative a = IsNotNegative O P a

  -- a square is not negative
  pub square : (a : R) → NotNegative (a ⊗ a)
  square a = go (Q.sign a)
    where
      go : Sign O P a → NotNegative (a ⊗ a)
      go (is_zero e) = inl (ap (λ x. x ⊗ x) e ∙ solve O L (look a []) (int' (pos 0) *' int' (pos 0)) (int' (pos 0)) tt)
      go (is_positive p) = inr (Q.product a a p p)
      go (is_negative p) = inr (subst P (solve O L (look a (a ∷ [])) (neg' (var 0) *' neg' (var 0)) (var 0 *' var 0) tt) (Q.product (minus a) (minus a) p p))

  -- a sum of a positive value and one that is not negative
  pub sum_more : (a b : R) → P a → NotNegative b → P (a ⊕ b)
  sum_more a b p (inl e) = subst P (solve O L (look a (a ∷ [])) (var 0) (var 0 +' int' (pos 0)) tt ∙ ap (λ x. a ⊕ x) (sym e)) p
  sum_more a b p (inr q) = Q.sum a b p q

  -- a product of values that are not negative
  pub product_not_negative : (a b : R) → NotNegative a → NotNegative b → NotNegative (a ⊗ b)
  product_not_negative a b (inl e) q = inl (ap (λ x. x ⊗ b) e ∙ solve O L (look b (b ∷ [])) (int' (pos 0) *' var 0) (int' (pos 0)) tt)
  product_not_negative a b (inr p) (inl e) = inl (ap (λ x. a ⊗ x) e ∙ solve O L (look a (a ∷ [])) (var 0 *' int' (pos 0)) (int' (pos 0)) tt)
  product_not_negative a b (inr p) (inr q) = inr (Q.product a b p q)

  -- a factor of a positive product with a positive value is positive
  pub factor : (a b : R) → P (a ⊗ b) → P b → P a
  factor a b h q = go (Q.sign a)
    where
      go : Sign O P a → P a
      go (is_zero e) = absurd (Q.zero_is_not (subst P (ap (λ x. x ⊗ b) e ∙ solve O L (look b (b ∷ [])) (int' (pos 0) *' var 0) (int' (pos 0)) tt) h))
      go (is_positive p) = p
      go (is_negative p) = clash (minus a ⊗ b) (a ⊗ b) (solve O L (look a (a ∷ b ∷ [])) (neg' (var 0) *' var 1 +' var 0 *' var 1) (int' (pos 0)) tt) (Q.product (minus a) b p q) h

  -- u > 0 and u² > v² give u + v > 0
  pub larger : (u v : R) → P u → P (u ⊗ u ⊕ minus (v ⊗ v)) → P (u ⊕ v)
  larger u v p h = go (Q.sign (u ⊕ v))
    where
      go : Sign O P (u ⊕ v) → P (u ⊕ v)
      go (is_zero e) = absurd (Q.zero_is_not (subst P
          (solve O L (look u (u ∷ v ∷ [])) (var 0 *' var 0 +' neg' (var 1 *' var 1)) ((var 0 +' var 1) *' (var 0 +' neg' (var 1))) tt
          ∙ ap (λ x. x ⊗ (u ⊕ minus v)) e ∙ solve O L (look u (u ∷ v ∷ [])) (int' (pos 0) *' (var 0 +' neg' (var 1))) (int' (pos 0)) tt) h))
      go (is_positive q) = q
      go (is_negative q) =
          let d : P (minus (u ⊕ v) ⊕ (u ⊕ u)) = Q.sum _ _ q (Q.sum u u p p) in
          clash (minus (u ⊕ v) ⊗ (minus (u ⊕ v) ⊕ (u ⊕ u))) (u ⊗ u ⊕ minus (v ⊗ v))
          (solve O L (look u (u ∷ v ∷ [])) (neg' (var 0 +' var 1) *' (neg' (var 0 +' var 1) +' (var 0 +' var 0)) +' (var 0 *' var 0 +' neg' (var 1 *' var 1))) (int' (pos 0)) tt)
          (Q.product _ _ q d) h

  -- of the three signs a value has one
  pub not_both_signs : {X : Type 0} (a : R) → P a → P (minus a) → X
  not_both_signs a p q = clash a (minus a) (L.add-neg a) p q

  -- a product of two values that are not zero is not zero
  pub no_divisors : (a b : R) → a ⊗ b ≡ num_of (pos 0) → (a ≡ num_of (pos 0)) ⊎ (b ≡ num_of (pos 0))
  no_divisors a b e = go (Q.sign a) (Q.sign b)
    where
      never : {X : Type 0} → P (a ⊗ b) ⊎ P (minus (a ⊗ b)) → X
      never (inl p) = absurd (Q.zero_is_not (subst P e p))
      never (inr p) = absurd (Q.zero_is_not (subst P (ap minus e ∙ solve O L (look a []) (neg' (int' (pos 0))) (int' (pos 0)) tt) p))

      go : Sign O P a → Sign O P b → (a ≡ num_of (pos 0)) ⊎ (b ≡ num_of (pos 0))
      go (is_zero z) _ = inl z
      go _ (is_zero z) = inr z
      go (is_positive p) (is_positive q) = never (inl (Q.product _ _ p q))
      go (is_positive p) (is_negative q) = never (inr (subst P (solve O L (look a (a ∷ b ∷ [])) (var 0 *' neg' (var 1)) (neg' (var 0 *' var 1)) tt) (Q.product _ _ p q)))
      go (is_negative p) (is_positive q) = never (inr (subst P (solve O L (look a (a ∷ b ∷ [])) (neg' (var 0) *' var 1) (neg' (var 0 *' var 1)) tt) (Q.product _ _ p q)))
      go (is_negative p) (is_negative q) = never (inl (subst P (solve O L (look a (a ∷ b ∷ [])) (neg' (var 0) *' neg' (var 1)) (var 0 *' var 1) tt) (Q.product _ _ p q)))

  -- a positive value in another form
  pub turned : (v : ℕ → R) (l r : Expr) → T (same l r) → P (eval O v l) → P (eval O v r)
  turned v l r t p = subst P (solve O L v l r t) p

  -- the square of a value that is not zero
  pub square_positive : (a : R) → ¬ (a ≡ num_of (pos 0)) → P (a ⊗ a)
  square_positive a h = go (Q.sign a)
    where
      go : Sign O P a → P (a ⊗ a)
      go (is_zero e) = absurd (h e)
      go (is_positive p) = Q.product a a p p
      go (is_negative p) = turned (look a (a ∷ [])) (neg' (var 0) *' neg' (var 0)) (var 0 *' var 0) tt (Q.product (minus a) (minus a) p p)

  -- a value that both is zero and positive
  zero_positive : {X : Type 0} (a : R) → a ≡ num_of (pos 0) → P a → X
  zero_positive a e p = absurd (Q.zero_is_not (subst P e p))

  -- a sum of values that are not negative
  pub sum_not_negative : (a b : R) → NotNegative a → NotNegative b → NotNegative (a ⊕ b)
  sum_not_negative a b (inl e) (inl f) = inl (ap (λ x. x ⊕ b) e ∙ L.zero-add b ∙ f)
  sum_not_negative a b (inl e) (inr q) = inr (subst P (L.add_comm b a) (sum_more b a q (inl e)))
  sum_not_negative a b (inr p) q = inr (sum_more a b p q)

  -- a sum of two negative values is negative
  pub sum_negative : (a b : R) → P (minus a) → P (minus b) → P (minus (a ⊕ b))
  sum_negative a b p q = turned (look a (a ∷ b ∷ [])) (neg' (var 0) +' neg' (var 1)) (neg' (var 0 +' var 1)) tt (Q.sum _ _ p q)

  -- a negative value times a positive one is negative
  pub product_negative : (a b : R) → P (minus a) → P b → P (minus (a ⊗ b))
  product_negative a b p q = turned (look a (a ∷ b ∷ [])) (neg' (var 0) *' var 1) (neg' (var 0 *' var 1)) tt (Q.product _ _ p q)

  -- a product of two negative values is positive
  pub product_of_negatives : (a b : R) → P (minus a) → P (minus b) → P (a ⊗ b)
  product_of_negatives a b p q = turned (look a (a ∷ b ∷ [])) (neg' (var 0) *' neg' (var 1)) (var 0 *' var 1) tt (Q.product _ _ p q)

  -- a factor of a negative product with a positive value is negative
  pub factor_negative : (a b : R) → P (minus (a ⊗ b)) → P b → P (minus a)
  factor_negative a b h q = factor (minus a) b (turned (look a (a ∷ b ∷ [])) (neg' (var 0 *' var 1)) (neg' (var 0) *' var 1) tt h) q

  -- a factor of a product of zero with a positive value is zero
  pub factor_zero : (a b : R) → a ⊗ b ≡ num_of (pos 0) → P b → a ≡ num_of (pos 0)
  factor_zero a b e q = go (no_divisors a b e)
    where
      go : (a ≡ num_of (pos 0)) ⊎ (b ≡ num_of (pos 0)) → a ≡ num_of (pos 0)
      go (inl z) = z
      go (inr z) = zero_positive b z q

  -- a difference of zero
  pub equal_from_difference : (a b : R) → a ⊖ b ≡ num_of (pos 0) → a ≡ b
  equal_from_difference a b e =
      identity O L (a ∷ b ∷ []) (var 0) ((var 0 -' var 1) +' var 1) tt ∙ ap (λ x. x ⊕ b) e ∙ L.zero-add b

  -- a factor that is not zero is cancelled in an equation
  pub cancel_factor : (c a b : R) → ¬ (c ≡ num_of (pos 0)) → c ⊗ a ≡ c ⊗ b → a ≡ b
  cancel_factor c a b h e = go (no_divisors c (a ⊖ b) product_zero)
    where
      product_zero : c ⊗ (a ⊖ b) ≡ num_of (pos 0)
      product_zero =
          identity O L (c ∷ a ∷ b ∷ []) (var 0 *' (var 1 -' var 2)) (var 0 *' var 1 -' var 0 *' var 2) tt
          ∙ ap (λ x. x ⊖ c ⊗ b) e ∙ identity O L (c ∷ b ∷ []) (var 0 *' var 1 -' var 0 *' var 1) (int' (pos 0)) tt

      go : (c ≡ num_of (pos 0)) ⊎ ((a ⊖ b) ≡ num_of (pos 0)) → a ≡ b
      go (inl z) = absurd (h z)
      go (inr z) = equal_from_difference a b z

  -- ---- the order
  abbrev Less : R → R → Type 0
  Less a b = IsLess O P a b

  -- smaller than a smaller one
  pub less_trans : (a b c : R) → Less a b → Less b c → Less a c
  less_trans a b c p q = turned (look a (a ∷ b ∷ c ∷ [])) ((var 2 -' var 1) +' (var 1 -' var 0)) (var 2 -' var 0) tt (Q.sum _ _ q p)

  -- a value added on both sides
  pub less_sum : (a b c : R) → Less a b → Less (a ⊕ c) (b ⊕ c)
  less_sum a b c p = turned (look a (a ∷ b ∷ c ∷ [])) (var 1 -' var 0) ((var 1 +' var 2) -' (var 0 +' var 2)) tt p

  -- a positive factor on both sides
  pub less_product : (c a b : R) → P c → Less a b → Less (c ⊗ a) (c ⊗ b)
  less_product c a b p q = turned (look a (c ∷ a ∷ b ∷ [])) (var 0 *' (var 2 -' var 1)) (var 0 *' var 2 -' var 0 *' var 1) tt (Q.product _ _ p q)

  -- a positive factor is cancelled on both sides
  pub cancel_less : (c a b : R) → P c → Less (c ⊗ a) (c ⊗ b) → Less a b
  cancel_less c a b p q = factor (b ⊖ a) c (turned (look a (c ∷ a ∷ b ∷ [])) (var 0 *' var 2 -' var 0 *' var 1) ((var 2 -' var 1) *' var 0) tt q) p

  -- ---- squares
  -- a square of zero
  pub square_zero : (a : R) → a ⊗ a ≡ num_of (pos 0) → a ≡ num_of (pos 0)
  square_zero a e = go (no_divisors a a e)
    where
      go : (a ≡ num_of (pos 0)) ⊎ (a ≡ num_of (pos 0)) → a ≡ num_of (pos 0)
      go (inl z) = z
      go (inr z) = z

  -- a sum of zero, of values that are not negative
  pub sum_zero : (a b : R) → NotNegative a → NotNegative b → a ⊕ b ≡ num_of (pos 0) → (a ≡ num_of (pos 0)) × (b ≡ num_of (pos 0))
  sum_zero a b (inr p) q e = zero_positive (a ⊕ b) e (sum_more a b p q)
  sum_zero a b (inl z) (inr q) e = zero_positive (b ⊕ a) (L.add_comm b a ∙ e) (sum_more b a q (inl z))
  sum_zero a b (inl z) (inl y) e = (z, y)

  -- a sum of squares is zero only where each is
  pub squares_zero : (a b : R) → a ⊗ a ⊕ b ⊗ b ≡ num_of (pos 0) → (a ≡ num_of (pos 0)) × (b ≡ num_of (pos 0))
  squares_zero a b e = let z = sum_zero (a ⊗ a) (b ⊗ b) (square a) (square b) e in (square_zero a z.0, square_zero b z.1)

  -- twice a value is zero only where the value is
  pub double_zero : (a : R) → a ⊕ a ≡ num_of (pos 0) → a ≡ num_of (pos 0)
  double_zero a e = go (Q.sign a)
    where
      go : Sign O P a → a ≡ num_of (pos 0)
      go (is_zero z) = z
      go (is_positive p) = zero_positive (a ⊕ a) e (Q.sum a a p p)
      go (is_negative p) =
          zero_positive (minus a ⊕ minus a)
          (identity O L (a ∷ []) (neg' (var 0) +' neg' (var 0)) (neg' (var 0 +' var 0)) tt ∙ ap minus e ∙ identity O L [] (neg' (int' (pos 0))) (int' (pos 0)) tt)
          (Q.sum _ _ p p)

  -- ---- whole numbers, where some value is positive
  module _ (some : R) (p : P some) where
    -- one is positive
    pub one_positive : P (num_of (pos 1))
    one_positive = go (Q.sign (num_of (pos 1)))
      where
        go : Sign O P (num_of (pos 1)) → P (num_of (pos 1))
        go (is_zero e) = zero_positive some (sym (L.one-mul some) ∙ ap (λ x. x ⊗ some) e ∙ identity O L (some ∷ []) (int' (pos 0) *' var 0) (int' (pos 0)) tt) p
        go (is_positive q) = q
        go (is_negative q) = turned (look some []) (neg' (int' (pos 1)) *' neg' (int' (pos 1))) (int' (pos 1)) tt (Q.product _ _ q q)

    -- and so is every whole number above zero
    pub whole_positive : (n : ℕ) → P (num_of (pos (suc n)))
    whole_positive zero = one_positive
    whole_positive (suc n) = subst P (sym (L.int-add (pos 1) (pos (suc n))) ∙ ap (λ k. num_of (pos k)) (one_more n)) (Q.sum _ _ one_positive (whole_positive n))
