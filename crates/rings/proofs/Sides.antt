-- Which forms are positive at the places of a line, in every ordered ring.
use Rattle.std.proofs.Common.{◌≡◌, [], ◌∷◌, subst, sym, ap, ◌∙◌}
use mathlib.Core.Logic.{inr}
use Rattle.std.specs.Prelude.{pos}
use Rattle.rings.specs.Ring.{Ops, IsRing, var, expr, look}
use Rattle.rings.specs.Order.{IsOrdered, Sign, is_zero, is_positive, is_negative, IsNotNegative}
use Rattle.rings.specs.Forms.{inner_value, value_at, discriminant}
use Rattle.rings.proofs.Solver.{identity}
use Rattle.rings.proofs.Ordered.{factor, factor_negative, factor_zero, turned, square, square_positive, sum_more, sum_not_negative, product_not_negative, product_negative, double_zero}
use Rattle.rings.proofs.Signs.{never_below, not_zero, negative_not_zero}
use Rattle.rings.specs.Lines.{Triple, crossing_point, zero_triple, IsOn, IsInside}
use Rattle.rings.specs.Bounds as bounds
use Rattle.rings.proofs.Lines.{line_square, chord_key, rise_by_second, rise_by_third}
open expr use {add as ◌+'◌, sub as ◌-'◌, mul as ◌*'◌, neg as neg', int as int'}

infixl 60 ◌+'◌
infixl 60 ◌-'◌
infixl 70 ◌*'◌
module _ {R : Type 0} (O : Ops R) (L : IsRing O) {P : R → Type 0} (Q : IsOrdered O P) where
  open O use {add as ◌⊕◌, sub as ◌⊖◌, mul as ◌⊗◌, neg as minus, int as num_of}

  infixl 60 ◌⊕◌
  infixl 60 ◌⊖◌
  infixl 70 ◌⊗◌
  -- zero, and the values that are not negative, and not positive
  abbrev Z : R
  Z = num_of (pos 0)

  abbrev NotNegative : R → Type 0
  NotNegative a = IsNotNegative O P a

  abbrev NotPositive : R → Type 0
  NotPositive a = IsNotNegative O P (minus a)

  -- a - b > 0 where a > 0 and b ≤ 0, or a ≥ 0 and b < 0
  difference_first : (a b : R) → P a → NotPositive b → P (a ⊖ b)
  difference_first a b p q = turned O L Q (look a (a ∷ b ∷ [])) (var 0 +' neg' (var 1)) (var 0 -' var 1) tt (sum_more O L Q a (minus b) p q)

  difference_second : (a b : R) → NotNegative a → P (minus b) → P (a ⊖ b)
  difference_second a b q p = turned O L Q (look a (a ∷ b ∷ [])) (neg' (var 1) +' var 0) (var 0 -' var 1) tt (sum_more O L Q (minus b) a p q)

  -- a value that is not positive, times a positive one
  not_positive_times : (a b : R) → NotPositive a → P b → NotPositive (a ⊗ b)
  not_positive_times a b q p =
      subst NotNegative (identity O L (a ∷ b ∷ []) (neg' (var 0) *' var 1) (neg' (var 0 *' var 1)) tt) (product_not_negative O L Q (minus a) b q (inr p))

  -- ---- two forms along a line
  abbrev rate : Triple R → Triple R → R
  rate l k = bounds.rate O l k

  -- k(q)·(w_k·w_m) - m(q)·w_k² = (c·w_k)·q.w at each place q of the line
  key_times : (l k m q : Triple R) → IsOn O l q
      → value_at O k q ⊗ (rate l k ⊗ rate l m) ⊖ value_at O m q ⊗ (rate l k ⊗ rate l k) ≡ (value_at O k (crossing_point O l m) ⊗ rate l k) ⊗ q.0
  key_times l k m q on =
      identity O L (value_at O k q ∷ value_at O m q ∷ rate l k ∷ rate l m ∷ [])
      (var 0 *' (var 2 *' var 3) -' var 1 *' (var 2 *' var 2)) ((var 0 *' var 3 -' var 1 *' var 2) *' var 2) tt
      ∙ ap (λ x. x ⊗ rate l k) (chord_key O L l k m q)
      ∙ (λ i. (value_at O k (crossing_point O l m) ⊗ q.0 ⊖ on i ⊗ rate m k) ⊗ rate l k)
      ∙ identity O L (value_at O k (crossing_point O l m) ∷ q.0 ∷ rate m k ∷ rate l k ∷ [])
      ((var 0 *' var 1 -' int' (pos 0) *' var 2) *' var 3) ((var 0 *' var 3) *' var 1) tt

  -- w_k² > 0 where w_k·w_m isn't zero
  rate_square : (a b : R) → ¬ (a ⊗ b ≡ Z) → P (a ⊗ a)
  rate_square a b h = square_positive O L Q a (λ e. h (ap (λ x. x ⊗ b) e ∙ identity O L (b ∷ []) (int' (pos 0) *' var 0) (int' (pos 0)) tt))

  module _ (l k m : Triple R) where
    -- two forms of opposite directions that are both not positive at a place are not both positive at another
    pub opposed : (p q : Triple R) → IsOn O l p → IsOn O l q → P p.0 → P q.0 → P (minus (rate l k ⊗ rate l m))
        → NotPositive (value_at O k p) → NotPositive (value_at O m p) → P (value_at O k q) → P (value_at O m q) → ⊥
    opposed p q on_p on_q pw qw apart kp mp kq mq =
        let wk = rate l k in
        let some = rate_square wk (rate l m) (negative_not_zero O L Q _ apart) in
        let c : R = value_at O k (crossing_point O l m) ⊗ wk in
        let below : P (minus (value_at O k q ⊗ (wk ⊗ rate l m) ⊖ value_at O m q ⊗ (wk ⊗ wk))) =
        turned O L Q (look wk (value_at O k q ∷ (wk ⊗ rate l m) ∷ value_at O m q ∷ (wk ⊗ wk) ∷ []))
        (var 0 *' neg' (var 1) +' var 2 *' var 3) (neg' (var 0 *' var 1 -' var 2 *' var 3)) tt
        (Q.sum _ _ (Q.product _ _ kq apart) (Q.product _ _ mq some)) in
        let negative : P (minus c) = factor_negative O L Q c q.0 (subst (λ x. P (minus x)) (key_times l k m q on_q) below) qw in
        let above : NotNegative (value_at O k p ⊗ (wk ⊗ rate l m) ⊖ value_at O m p ⊗ (wk ⊗ wk)) =
        subst NotNegative
        (identity O L (value_at O k p ∷ (wk ⊗ rate l m) ∷ value_at O m p ∷ (wk ⊗ wk) ∷ []) (neg' (var 0) *' neg' (var 1) +' neg' (var 2) *' var 3) (var 0 *' var 1 -' var 2 *' var 3) tt)
        (sum_not_negative O L Q _ _ (product_not_negative O L Q _ _ kp (inr apart)) (product_not_negative O L Q _ _ mp (inr some))) in
        never_below O L Q (c ⊗ p.0) (subst NotNegative (key_times l k m p on_p) above) (product_negative O L Q c p.0 negative pw)

    -- of two forms of one direction, one is positive where the other is zero, if so it was at a place before
    pub behind : (a p : Triple R) → IsOn O l a → IsOn O l p → P a.0 → P p.0 → P (rate l k ⊗ rate l m)
        → value_at O m p ≡ Z → P (value_at O k a ⊗ (rate l k ⊗ rate l m) ⊖ value_at O m a ⊗ (rate l k ⊗ rate l k)) → P (value_at O k p)
    behind a p on_a on_p aw pw same zero_p above =
        let wk = rate l k in
        let c : R = value_at O k (crossing_point O l m) ⊗ wk in
        let positive : P c = factor O L Q c a.0 (subst P (key_times l k m a on_a) above) aw in
        factor O L Q (value_at O k p) (wk ⊗ rate l m)
        (subst P (sym (key_times l k m p on_p) ∙ (λ i. value_at O k p ⊗ (wk ⊗ rate l m) ⊖ zero_p i ⊗ (wk ⊗ wk))
        ∙ identity O L (value_at O k p ∷ (wk ⊗ rate l m) ∷ (wk ⊗ wk) ∷ []) (var 0 *' var 1 -' int' (pos 0) *' var 2) (var 0 *' var 1) tt)
        (Q.product _ _ positive pw)) same

    pub behind_first : (a p : Triple R) → IsOn O l a → IsOn O l p → P a.0 → P p.0 → P (rate l k ⊗ rate l m)
        → value_at O m p ≡ Z → P (value_at O k a) → NotPositive (value_at O m a) → P (value_at O k p)
    behind_first a p on_a on_p aw pw same zero_p ka ma =
        behind a p on_a on_p aw pw same zero_p
        (difference_first _ _ (Q.product _ _ ka same) (not_positive_times _ _ ma (rate_square (rate l k) (rate l m) (not_zero O L Q _ same))))

    pub behind_second : (a p : Triple R) → IsOn O l a → IsOn O l p → P a.0 → P p.0 → P (rate l k ⊗ rate l m)
        → value_at O m p ≡ Z → NotNegative (value_at O k a) → P (minus (value_at O m a)) → P (value_at O k p)
    behind_second a p on_a on_p aw pw same zero_p ka ma =
        behind a p on_a on_p aw pw same zero_p
        (difference_second _ _ (product_not_negative O L Q _ _ ka (inr same))
        (product_negative O L Q _ _ ma (rate_square (rate l k) (rate l m) (not_zero O L Q _ same))))

  module _ (l k : Triple R) (some : ¬ (l ≡ zero_triple O)) where
    -- what lies on a line and has all but its first coefficient zero
    first_zero : (p : Triple R) → IsOn O l p → P p.0 → l.1 ≡ Z → l.2 ≡ Z → ⊥
    first_zero p on pw e f =
        let z : l.0 ≡ Z = factor_zero O L Q l.0 p.0
        (identity O L (l.0 ∷ p.0 ∷ p.1 ∷ p.2 ∷ []) (var 0 *' var 1) ((var 0 *' var 1 +' int' (pos 0) *' var 2) +' int' (pos 0) *' var 3) tt
        ∙ sym (λ i. l.0 ⊗ p.0 ⊕ e i ⊗ p.1 ⊕ f i ⊗ p.2) ∙ on) pw in
        some (λ i. (z i, e i, f i))

    -- a form whose value doesn't change along the line
    pub flat : (p q : Triple R) → IsOn O l p → IsOn O l q → P p.0 → P q.0 → rate l k ≡ Z → NotPositive (value_at O k p) → P (value_at O k q) → ⊥
    flat p q on_p on_q pw qw none kp kq =
        let Δ : R = p.0 ⊗ value_at O k q ⊖ q.0 ⊗ value_at O k p in
        let rises : P Δ = difference_first _ _ (Q.product _ _ pw kq) (subst NotPositive (L.mul_comm (value_at O k p) q.0) (not_positive_times (value_at O k p) q.0 kp qw)) in
        let second : l.1 ⊗ Δ ≡ Z =
        rise_by_second O L l k p q ∙ (λ i. k.1 ⊗ (p.0 ⊗ on_q i ⊖ q.0 ⊗ on_p i) ⊕ none i ⊗ (p.0 ⊗ q.2 ⊖ q.0 ⊗ p.2))
        ∙ identity O L (k.1 ∷ p.0 ∷ q.0 ∷ (p.0 ⊗ q.2 ⊖ q.0 ⊗ p.2) ∷ []) (var 0 *' (var 1 *' int' (pos 0) -' var 2 *' int' (pos 0)) +' int' (pos 0) *' var 3) (int' (pos 0)) tt in
        let third : l.2 ⊗ Δ ≡ Z =
        rise_by_third O L l k p q ∙ (λ i. k.2 ⊗ (p.0 ⊗ on_q i ⊖ q.0 ⊗ on_p i) ⊖ none i ⊗ (p.0 ⊗ q.1 ⊖ q.0 ⊗ p.1))
        ∙ identity O L (k.2 ∷ p.0 ∷ q.0 ∷ (p.0 ⊗ q.1 ⊖ q.0 ⊗ p.1) ∷ []) (var 0 *' (var 1 *' int' (pos 0) -' var 2 *' int' (pos 0)) -' int' (pos 0) *' var 3) (int' (pos 0)) tt in
        first_zero p on_p pw (factor_zero O L Q l.1 Δ second rises) (factor_zero O L Q l.2 Δ third rises)

    -- a line through a half-plane point has a positive discriminant
    pub through_point : (q : Triple R) → IsInside O P q → IsOn O l q → P (discriminant O l)
    through_point q inside on = factor O L Q (discriminant O l) (q.0 ⊗ q.0)
        (subst P (sym (line_square O L l q ∙ (λ i. (S ⊗ S ⊕ G ⊗ inner_value O q) ⊖ (num_of (pos 4) ⊗ l.2 ⊗ q.0) ⊗ on i)
        ∙ identity O L (S ∷ (G ⊗ inner_value O q) ∷ (num_of (pos 4) ⊗ l.2 ⊗ q.0) ∷ []) ((var 0 *' var 0 +' var 1) -' var 2 *' int' (pos 0)) (var 0 *' var 0 +' var 1) tt) ∙ L.mul_comm _ _)
        (go (Q.sign l.2))) (Q.product _ _ inside.0 inside.0)
      where
        S : R
        S = l.1 ⊗ q.0 ⊕ (num_of (pos 2) ⊗ l.2) ⊗ q.1

        G : R
        G = (num_of (pos 2) ⊗ l.2) ⊗ (num_of (pos 2) ⊗ l.2)

        -- where γ isn't zero, by the inner value
        by_inner : ¬ (l.2 ≡ Z) → P (S ⊗ S ⊕ G ⊗ inner_value O q)
        by_inner h =
            let two : P G = square_positive O L Q (num_of (pos 2) ⊗ l.2) (λ e. h (double_zero O L Q l.2 (identity O L (l.2 ∷ []) (var 0 +' var 0) (int' (pos 2) *' var 0) tt ∙ e))) in
            subst P (L.add_comm _ _) (sum_more O L Q (G ⊗ inner_value O q) (S ⊗ S) (Q.product _ _ two inside.1) (square O L Q S))

        -- where γ is zero, by the square
        by_square : l.2 ≡ Z → P (S ⊗ S ⊕ G ⊗ inner_value O q)
        by_square e =
            let other : ¬ (S ≡ Z) = λ z. first_zero q on inside.0 (factor_zero O L Q l.1 q.0
            (identity O L (l.1 ∷ q.0 ∷ q.1 ∷ []) (var 0 *' var 1) (var 0 *' var 1 +' (int' (pos 2) *' int' (pos 0)) *' var 2) tt
            ∙ sym (λ i. l.1 ⊗ q.0 ⊕ (num_of (pos 2) ⊗ e i) ⊗ q.1) ∙ z) inside.0) e in
            sum_more O L Q (S ⊗ S) (G ⊗ inner_value O q) (square_positive O L Q S other) (product_not_negative O L Q _ _ (square O L Q (num_of (pos 2) ⊗ l.2)) (inr inside.1))

        go : Sign O P l.2 → P (S ⊗ S ⊕ G ⊗ inner_value O q)
        go (is_zero e) = by_square e
        go (is_positive p) = by_inner (not_zero O L Q l.2 p)
        go (is_negative p) = by_inner (negative_not_zero O L Q l.2 p)
