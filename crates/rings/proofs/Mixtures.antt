-- Places inside the parabola are a cone: mixtures of two of them on a line, and where a form changes its sign; in every ordered ring.
use Rattle.std.proofs.Common.{◌≡◌, [], ◌∷◌, subst, sym, ap, ◌∙◌}
use mathlib.Core.Logic.{inr}
use Rattle.std.specs.Prelude.{pos}
use Rattle.rings.specs.Ring.{Ops, IsRing, var, expr}
use Rattle.rings.specs.Order.{IsOrdered, IsNotNegative}
use Rattle.rings.specs.Forms.{inner_value, value_at}
use Rattle.rings.proofs.Solver.{identity}
use Rattle.rings.proofs.Ordered.{factor, factor_zero, square, square_positive, sum_more, product_not_negative}
use Rattle.rings.specs.Lines.{Triple, crossing_point, zero_triple, IsOn, IsInside}
use Rattle.rings.proofs.Lines.{meet_second, meet_third, inner_of_multiples, inner_mixed, mixed_value, mixed_square}
open expr use {add as ◌+'◌, sub as ◌-'◌, mul as ◌*'◌, neg as neg', int as int'}

infixl 60 ◌+'◌
infixl 60 ◌-'◌
infixl 70 ◌*'◌
module _ {R : Type 0} (O : Ops R) (L : IsRing O) {P : R → Type 0} (Q : IsOrdered O P) where
  open O use {add as ◌⊕◌, sub as ◌⊖◌, mul as ◌⊗◌, neg as minus, int as num_of}

  infixl 60 ◌⊕◌
  infixl 60 ◌⊖◌
  infixl 70 ◌⊗◌
  abbrev Z : R
  Z = num_of (pos 0)

  abbrev NotPositive : R → Type 0
  NotPositive a = IsNotNegative O P (minus a)

  -- m·q + n·r
  abbrev pub mixture : Triple R → Triple R → R → R → Triple R
  mixture q r m n = (m ⊗ q.0 ⊕ n ⊗ r.0, m ⊗ q.1 ⊕ n ⊗ r.1, m ⊗ q.2 ⊕ n ⊗ r.2)

  -- its value
  pub value_mixed : (k q r : Triple R) (m n : R) → value_at O k (mixture q r m n) ≡ m ⊗ value_at O k q ⊕ n ⊗ value_at O k r
  value_mixed k q r m n =
      identity O L (k.0 ∷ k.1 ∷ k.2 ∷ q.0 ∷ q.1 ∷ q.2 ∷ r.0 ∷ r.1 ∷ r.2 ∷ m ∷ n ∷ [])
      (value_at expr (var 0, var 1, var 2) (var 9 *' var 3 +' var 10 *' var 6, var 9 *' var 4 +' var 10 *' var 7, var 9 *' var 5 +' var 10 *' var 8))
      (var 9 *' value_at expr (var 0, var 1, var 2) (var 3, var 4, var 5) +' var 10 *' value_at expr (var 0, var 1, var 2) (var 6, var 7, var 8)) tt

  -- the polar of two half-plane points is positive
  pub mixed_positive : (q r : Triple R) → IsInside O P q → IsInside O P r → P (mixed_value O L q r)
  mixed_positive q r p s =
      factor O L Q (mixed_value O L q r) (q.0 ⊗ r.0)
      (subst P (sym (mixed_square O L q r) ∙ L.mul_comm _ _)
      (sum_more O L Q _ _ (Q.sum _ _ (Q.product _ _ (Q.product _ _ p.0 p.0) s.1) (Q.product _ _ (Q.product _ _ s.0 s.0) p.1)) (square O L Q _)))
      (Q.product _ _ p.0 s.0)

  -- half-plane points are a cone
  pub inside_mixed : (q r : Triple R) (m n : R) → IsInside O P q → IsInside O P r → P m → IsNotNegative O P n → IsInside O P (mixture q r m n)
  inside_mixed q r m n p s pm pn = (
    sum_more O L Q _ _ (Q.product _ _ pm p.0) (product_not_negative O L Q n r.0 pn (inr s.0)),
    subst P (sym (inner_mixed O L q r m n))
        (sum_more O L Q _ _ (sum_more O L Q _ _ (Q.product _ _ (Q.product _ _ pm pm) p.1) (product_not_negative O L Q _ _ (square O L Q n) (inr s.1)))
        (product_not_negative O L Q _ _ (product_not_negative O L Q _ _ (inr pm) pn) (inr (mixed_positive q r p s)))),
  )

  -- two lines that meet at a half-plane point, and not along each other, have it as their crossing point, up to a factor
  pub meets_inside : (l k z : Triple R) → IsInside O P z → IsOn O l z → value_at O k z ≡ Z → ¬ (crossing_point O l k ≡ zero_triple O) → P (inner_value O (crossing_point O l k))
  meets_inside l k z inside on zero some =
      let x = crossing_point O l k in
      let second : (crossing_point O z x).1 ≡ Z =
      meet_second O L l k z ∙ (λ i. zero i ⊗ l.1 ⊖ on i ⊗ k.1) ∙ identity O L (l.1 ∷ k.1 ∷ []) (int' (pos 0) *' var 0 -' int' (pos 0) *' var 1) (int' (pos 0)) tt in
      let third : (crossing_point O z x).2 ≡ Z =
      meet_third O L l k z ∙ (λ i. zero i ⊗ l.2 ⊖ on i ⊗ k.2) ∙ identity O L (l.2 ∷ k.2 ∷ []) (int' (pos 0) *' var 0 -' int' (pos 0) *' var 1) (int' (pos 0)) tt in
      let same : (z.0 ⊗ z.0) ⊗ inner_value O x ≡ (x.0 ⊗ x.0) ⊗ inner_value O z =
      inner_of_multiples O L z x ∙ (λ i. (x.0 ⊗ x.0) ⊗ inner_value O z ⊕ (third i ⊗ (minus (z.0 ⊗ x.1) ⊖ z.1 ⊗ x.0) ⊖ second i ⊗ (z.0 ⊗ x.0)))
      ∙ identity O L ((x.0 ⊗ x.0) ⊗ inner_value O z ∷ (minus (z.0 ⊗ x.1) ⊖ z.1 ⊗ x.0) ∷ (z.0 ⊗ x.0) ∷ []) (var 0 +' (int' (pos 0) *' var 1 -' int' (pos 0) *' var 2)) (var 0) tt in
      let first_some : ¬ (x.0 ≡ Z) = λ e.
      let a : x.1 ≡ Z = factor_zero O L Q x.1 z.0
      (identity O L (x.1 ∷ z.0 ∷ z.1 ∷ []) (var 0 *' var 1) (neg' (var 2 *' int' (pos 0) -' var 1 *' var 0)) tt ∙ sym (λ i. minus (z.1 ⊗ e i ⊖ z.0 ⊗ x.1))
      ∙ identity O L (z.0 ∷ z.1 ∷ x.0 ∷ x.1 ∷ []) (neg' (var 1 *' var 2 -' var 0 *' var 3)) (var 0 *' var 3 -' var 1 *' var 2) tt ∙ third) inside.0 in
      let b : x.2 ≡ Z = factor_zero O L Q x.2 z.0
      (identity O L (x.2 ∷ z.0 ∷ z.2 ∷ []) (var 0 *' var 1) (neg' (var 2 *' int' (pos 0) -' var 1 *' var 0)) tt ∙ sym (λ i. minus (z.2 ⊗ e i ⊖ z.0 ⊗ x.2)) ∙ ap minus second
      ∙ identity O L [] (neg' (int' (pos 0))) (int' (pos 0)) tt) inside.0 in
      some (λ i. (e i, a i, b i)) in
      factor O L Q (inner_value O x) (z.0 ⊗ z.0)
      (subst P (sym same ∙ L.mul_comm _ _) (Q.product _ _ (square_positive O L Q x.0 first_some) inside.1)) (Q.product _ _ inside.0 inside.0)

  -- a form whose line doesn't cross a line inside has one sign along it
  pub outside : (l k p q : Triple R) → IsInside O P p → IsInside O P q → IsOn O l p → IsOn O l q → ¬ (crossing_point O l k ≡ zero_triple O)
      → NotPositive (value_at O k p) → P (value_at O k q) → P (inner_value O (crossing_point O l k))
  outside l k p q in_p in_q on_p on_q some kp kq =
      let m = value_at O k q in
      let n = minus (value_at O k p) in
      let z = mixture p q m n in
      meets_inside l k z (inside_mixed p q m n in_p in_q kq kp)
      (value_mixed l p q m n ∙ (λ i. m ⊗ on_p i ⊕ n ⊗ on_q i) ∙ identity O L (m ∷ n ∷ []) (var 0 *' int' (pos 0) +' var 1 *' int' (pos 0)) (int' (pos 0)) tt)
      (value_mixed k p q m n ∙ identity O L (value_at O k q ∷ value_at O k p ∷ []) (var 0 *' var 1 +' neg' (var 1) *' var 0) (int' (pos 0)) tt) some
