-- When a turn to the left passes a direction, and that going round passes each direction as often as any other.
use Rattle.std.proofs.Common.{◌≡◌, ℕ, ◌+◌, [], ◌∷◌, Bool, true, false, not, ◌&&◌, refl, subst, sym, ap, ◌∙◌}
use Rattle.std.specs.Prelude.{pos, ◌⊎◌}
use mathlib.Core.Logic.{inl, inr}
use Rattle.rings.specs.Ring.{Ops, IsRing, Expr, var, expr}
use Rattle.rings.specs.Order.{IsOrdered, Sign, is_zero, is_positive, is_negative, IsNotNegative}
use Rattle.rings.specs.Forms.{det}
use Rattle.rings.specs.Vectors.{Vector, zero_vector, IsUpper}
use Rattle.rings.proofs.Solver.{identity}
use Rattle.rings.proofs.Ordered.{factor, product_not_negative, square, squares_zero, sum_not_negative}
use Rattle.rings.proofs.Signs.{minus_zero, never_below, never_positive, not_negative_or}
use Rattle.rings.proofs.Turning.{upper_not_below}
use Rattle.cone_points.proofs.Numbers.{bit}
open expr use {add as ◌+'◌, sub as ◌-'◌, mul as ◌*'◌, neg as neg', int as int'}

infixl 60 ◌+'◌
infixl 60 ◌-'◌
infixl 70 ◌*'◌
-- of a turn from one vector to another, and of two directions: whether the one direction lies to the left of the first vector, and of the second, and the same of the other direction.
-- Where the other direction lies to the left of the one, the turn passes the one, and the first vector isn't in the sector from the one to the other, exactly as often as it passes the other, and the second isn't
pub sectors : (a b c e : Bool) → ¬ ((a ≡ not e) × (c ≡ b)) → bit (a && not b) + bit (not a && c) ≡ bit (c && not e) + bit (not b && e)
sectors false false false false apart = refl
sectors false false false true apart = absurd (apart (refl, refl))
sectors false false true false apart = refl
sectors false false true true apart = refl
sectors false true false false apart = refl
sectors false true false true apart = refl
sectors false true true false apart = refl
sectors false true true true apart = absurd (apart (refl, refl))
sectors true false false false apart = absurd (apart (refl, refl))
sectors true false false true apart = refl
sectors true false true false apart = refl
sectors true false true true apart = refl
sectors true true false false apart = refl
sectors true true false true apart = refl
sectors true true true false apart = absurd (apart (refl, refl))
sectors true true true true apart = refl

-- four vectors of variables
abbrev u' : Vector Expr
u' = (var 0, var 1)

abbrev v' : Vector Expr
v' = (var 2, var 3)

abbrev w' : Vector Expr
w' = (var 4, var 5)

abbrev z' : Vector Expr
z' = (var 6, var 7)

module _ {R : Type 0} (O : Ops R) (L : IsRing O) {P : R → Type 0} (Q : IsOrdered O P) where
  open O use {add as ◌⊕◌, sub as ◌⊖◌, mul as ◌⊗◌, neg as minus, int as num_of}

  infixl 60 ◌⊕◌
  infixl 60 ◌⊖◌
  infixl 70 ◌⊗◌
  abbrev NotNegative : R → Type 0
  NotNegative a = IsNotNegative O P a

  abbrev NotPositive : R → Type 0
  NotPositive a = IsNotNegative O P (minus a)

  -- whether a number is positive
  abbrev sign_test : (a : R) → Sign O P a → Bool
  sign_test a (is_zero e) = false
  sign_test a (is_positive p) = true
  sign_test a (is_negative n) = false

  abbrev pub positive : R → Bool
  positive a = sign_test a (Q.sign a)

  pub positive_yes : (a : R) → positive a ≡ true → P a
  positive_yes a = go (Q.sign a)
    where
      go : (s : Sign O P a) → sign_test a s ≡ true → P a
      go (is_zero e) t = let no : ⊥ = cc in absurd no
      go (is_positive p) t = p
      go (is_negative n) t = let no : ⊥ = cc in absurd no

  pub positive_no : (a : R) → positive a ≡ false → NotPositive a
  positive_no a = go (Q.sign a)
    where
      go : (s : Sign O P a) → sign_test a s ≡ false → NotPositive a
      go (is_zero e) t = inl (ap minus e ∙ minus_zero O L Q)
      go (is_positive p) t = let no : ⊥ = cc in absurd no
      go (is_negative n) t = inr n

  -- ---- two directions
  -- the products of the determinants of two vectors with two others
  products : (u v w z : Vector R) → det O u w ⊗ det O v z ⊖ det O u z ⊗ det O v w ≡ det O u v ⊗ det O w z
  products u v w z =
      identity O L (u.0 ∷ u.1 ∷ v.0 ∷ v.1 ∷ w.0 ∷ w.1 ∷ z.0 ∷ z.1 ∷ [])
      (det expr u' w' *' det expr v' z' -' det expr u' z' *' det expr v' w') (det expr u' v' *' det expr w' z') tt

  -- so these signs don't go together, where v lies to the left of u and z to the left of w
  not_together : (u v w z : Vector R) → P (det O u v) → P (det O w z) → NotPositive (det O u w ⊗ det O v z) → ¬ (NotNegative (det O u z ⊗ det O v w))
  not_together u v w z turn wider low high =
      never_below O L Q (minus (det O u w ⊗ det O v z) ⊕ det O u z ⊗ det O v w) (sum_not_negative O L Q (minus (det O u w ⊗ det O v z)) (det O u z ⊗ det O v w) low high)
      (subst P
      (sym (products u v w z)
      ∙ identity O L (det O u w ⊗ det O v z ∷ det O u z ⊗ det O v w ∷ []) (var 0 -' var 1) (neg' (neg' (var 0) +' var 1)) tt)
      (Q.product (det O u v) (det O w z) turn wider))

  different_signs : (x y : R) → positive x ≡ not (positive y) → NotPositive (x ⊗ y)
  different_signs x y = go (positive x) (positive y) refl refl
    where
      go : (p q : Bool) → positive x ≡ p → positive y ≡ q → p ≡ not q → NotPositive (x ⊗ y)
      go true true e f same = let no : ⊥ = cc in absurd no
      go true false e f same =
          subst NotNegative (identity O L (x ∷ y ∷ []) (var 0 *' neg' (var 1)) (neg' (var 0 *' var 1)) tt)
          (product_not_negative O L Q x (minus y) (inr (positive_yes x e)) (positive_no y f))
      go false true e f same =
          subst NotNegative (identity O L (x ∷ y ∷ []) (neg' (var 0) *' var 1) (neg' (var 0 *' var 1)) tt)
          (product_not_negative O L Q (minus x) y (positive_no x e) (inr (positive_yes y f)))
      go false false e f same = let no : ⊥ = cc in absurd no

  same_signs : (x y : R) → positive x ≡ positive y → NotNegative (x ⊗ y)
  same_signs x y = go (positive x) (positive y) refl refl
    where
      go : (p q : Bool) → positive x ≡ p → positive y ≡ q → p ≡ q → NotNegative (x ⊗ y)
      go true true e f same = product_not_negative O L Q x y (inr (positive_yes x e)) (inr (positive_yes y f))
      go true false e f same = let no : ⊥ = cc in absurd no
      go false true e f same = let no : ⊥ = cc in absurd no
      go false false e f same =
          subst NotNegative (identity O L (x ∷ y ∷ []) (neg' (var 0) *' neg' (var 1)) (var 0 *' var 1) tt)
          (product_not_negative O L Q (minus x) (minus y) (positive_no x e) (positive_no y f))

  -- whether w lies to the left of v
  abbrev pub left_test : Vector R → Vector R → Bool
  left_test w v = positive (det O v w)

  -- whether v lies in the sector from w to z, with w and without z
  abbrev pub sector_test : Vector R → Vector R → Vector R → Bool
  sector_test w z v = not (left_test w v) && left_test z v

  -- a turn from u to v passes w as often as z, but for entering and leaving the sector
  pub passed_alike : (u v w z : Vector R) → P (det O u v) → P (det O w z)
      → bit (left_test w u && not (left_test w v)) + bit (sector_test w z u) ≡ bit (left_test z u && not (left_test z v)) + bit (sector_test w z v)
  passed_alike u v w z turn wider =
      sectors (left_test w u) (left_test w v) (left_test z u) (left_test z v) (λ both.
      not_together u v w z turn wider (different_signs (det O u w) (det O v z) both.0) (same_signs (det O u z) (det O v w) both.1))

  -- ---- all directions
  -- w turned by a quarter to the left
  abbrev quarter : Vector R → Vector R
  quarter w = (minus w.1, w.0)

  -- the square of a vector's length is positive
  length_positive : (w : Vector R) → ¬ (w ≡ zero_vector O) → P (w.0 ⊗ w.0 ⊕ w.1 ⊗ w.1)
  length_positive w some = go (Q.sign (w.0 ⊗ w.0 ⊕ w.1 ⊗ w.1))
    where
      go : Sign O P (w.0 ⊗ w.0 ⊕ w.1 ⊗ w.1) → P (w.0 ⊗ w.0 ⊕ w.1 ⊗ w.1)
      go (is_zero e) = let z = squares_zero O L Q w.0 w.1 e in absurd (some (λ i. (z.0 i, z.1 i)))
      go (is_positive p) = p
      go (is_negative n) = never_below O L Q (w.0 ⊗ w.0 ⊕ w.1 ⊗ w.1) (sum_not_negative O L Q (w.0 ⊗ w.0) (w.1 ⊗ w.1) (square O L Q w.0) (square O L Q w.1)) n

  quarter_left : (w : Vector R) → ¬ (w ≡ zero_vector O) → P (det O w (quarter w))
  quarter_left w some =
      subst P (identity O L (w.0 ∷ w.1 ∷ []) (var 0 *' var 0 +' var 1 *' var 1) (det expr u' (neg' (var 1), var 0)) tt) (length_positive w some)

  turned_over : (u v : Vector R) → P (minus (det O u v)) → P (det O v u)
  turned_over u v n = subst P (identity O L (u.0 ∷ u.1 ∷ v.0 ∷ v.1 ∷ []) (neg' (det expr u' v')) (det expr v' u') tt) n

  -- two vectors of which one is level with the other and with the other's quarter aren't both nonzero
  not_level : (w z : Vector R) → ¬ (w ≡ zero_vector O) → ¬ (z ≡ zero_vector O) → det O w z ≡ num_of (pos 0) → ¬ (det O z (quarter w) ≡ num_of (pos 0))
  not_level w z some other level across =
      never_positive O L Q ((w.0 ⊗ w.0 ⊕ w.1 ⊗ w.1) ⊗ (z.0 ⊗ z.0 ⊕ z.1 ⊗ z.1))
      (identity O L (w.0 ∷ w.1 ∷ z.0 ∷ z.1 ∷ [])
      ((var 0 *' var 0 +' var 1 *' var 1) *' (var 2 *' var 2 +' var 3 *' var 3))
      (det expr u' v' *' det expr u' v' +' det expr v' (neg' (var 1), var 0) *' det expr v' (neg' (var 1), var 0)) tt
      ∙ ap (λ x. x ⊗ x ⊕ det O z (quarter w) ⊗ det O z (quarter w)) level
      ∙ ap (λ y. num_of (pos 0) ⊗ num_of (pos 0) ⊕ y ⊗ y) across
      ∙ identity O L [] (int' (pos 0) *' int' (pos 0) +' int' (pos 0) *' int' (pos 0)) (int' (pos 0)) tt)
      (Q.product (w.0 ⊗ w.0 ⊕ w.1 ⊗ w.1) (z.0 ⊗ z.0 ⊕ z.1 ⊗ z.1) (length_positive w some) (length_positive z other))

  -- a number that is the same for two directions, the one to the left of the other, is the same for all
  pub same_all_round : (number : Vector R → ℕ) → ((w z : Vector R) → P (det O w z) → number w ≡ number z)
      → (w z : Vector R) → ¬ (w ≡ zero_vector O) → ¬ (z ≡ zero_vector O) → number w ≡ number z
  same_all_round number step w z some other = go (Q.sign (det O w z)) (Q.sign (det O z (quarter w)))
    where
      first : number w ≡ number (quarter w)
      first = step w (quarter w) (quarter_left w some)

      go : Sign O P (det O w z) → Sign O P (det O z (quarter w)) → number w ≡ number z
      go (is_positive p) _ = step w z p
      go (is_negative n) _ = sym (step z w (turned_over w z n))
      go (is_zero e) (is_positive p) = first ∙ sym (step z (quarter w) p)
      go (is_zero e) (is_negative n) = first ∙ step (quarter w) z (turned_over z (quarter w) n)
      go (is_zero e) (is_zero f) = absurd (not_level w z some other e f)

  -- ---- the direction (1, 0)
  abbrev first_axis : Vector R
  first_axis = (num_of (pos 1), num_of (pos 0))

  axis_left : (v : Vector R) → det O v first_axis ≡ minus v.1
  axis_left v = identity O L (v.0 ∷ v.1 ∷ []) (det expr u' (int' (pos 1), int' (pos 0))) (neg' (var 1)) tt

  -- a turn to the left from the lower half to the upper passes it
  pub rise_passes : (u v : Vector R) → P (det O u v) → ¬ (IsUpper O P u) → IsUpper O P v → P (det O u first_axis) × ¬ (P (det O v first_axis))
  rise_passes u v turn low up = (subst P (sym (axis_left u)) (below (Q.sign u.1) (Q.sign u.0)), (λ p. never_below O L Q v.1 (upper_not_below O L Q v up) (subst P (axis_left v) p)))
    where
      below : Sign O P u.1 → Sign O P u.0 → P (minus u.1)
      below (is_positive p) _ = absurd (low (inl p))
      below (is_negative n) _ = n
      below (is_zero e) (is_positive p) = absurd (low (inr (e, p)))
      below (is_zero e) (is_zero f) =
          never_positive O L Q (det O u v)
          (ap (λ (s : R). s ⊗ v.1 ⊖ u.1 ⊗ v.0) f ∙ ap (λ (t : R). num_of (pos 0) ⊗ v.1 ⊖ t ⊗ v.0) e
          ∙ identity O L (v.0 ∷ v.1 ∷ []) (int' (pos 0) *' var 1 -' int' (pos 0) *' var 0) (int' (pos 0)) tt) turn
      below (is_zero e) (is_negative n) =
          never_below O L Q (minus u.0 ⊗ v.1) (product_not_negative O L Q (minus u.0) v.1 (inr n) (upper_not_below O L Q v up))
          (subst P (ap (λ (t : R). u.0 ⊗ v.1 ⊖ t ⊗ v.0) e
          ∙ identity O L (u.0 ∷ v.0 ∷ v.1 ∷ []) (var 0 *' var 2 -' int' (pos 0) *' var 1) (neg' (neg' (var 0) *' var 2)) tt) turn)

  -- and no other turn to the left does
  pub passes_rise : (u v : Vector R) → P (det O u v) → P (det O u first_axis) → ¬ (P (det O v first_axis)) → ¬ (IsUpper O P u) × IsUpper O P v
  passes_rise u v turn passed still = (
    (λ up. never_below O L Q u.1 (upper_not_below O L Q u up) low),
    above (not_negative_or O L Q v.1),
  )
    where
      low : P (minus u.1)
      low = subst P (axis_left u) passed

      above : NotNegative v.1 ⊎ P (minus v.1) → IsUpper O P v
      above (inr n) = absurd (still (subst P (sym (axis_left v)) n))
      above (inl (inr p)) = inl p
      above (inl (inl e)) =
          inr (
            e,
            factor O L Q v.0 (minus u.1)
                (subst P (ap (λ (t : R). u.0 ⊗ t ⊖ u.1 ⊗ v.0) e
                ∙ identity O L (u.0 ∷ u.1 ∷ v.0 ∷ []) (var 0 *' int' (pos 0) -' var 1 *' var 2) (var 2 *' neg' (var 1)) tt) turn) low,
          )
