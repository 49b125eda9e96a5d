-- Places inside the parabola or on it: which of a place and its negative is one, and values there; in every ordered ring.
use Rattle.std.proofs.Common.{◌≡◌, ℕ, suc, [], ◌∷◌, subst, sym, ap, ◌∙◌, arith}
use mathlib.Core.Logic.{inl, inr}
use Rattle.std.specs.Prelude.{pos, ◌⊎◌}
use Rattle.rings.specs.Ring.{Ops, IsRing, var, expr}
use Rattle.rings.specs.Order.{IsOrdered, IsNotNegative}
use Rattle.rings.specs.Forms.{inner_value, value_at}
use Rattle.rings.proofs.Solver.{identity}
use Rattle.rings.proofs.Ordered.{factor, factor_zero, sum_more, sum_not_negative, product_not_negative, square, square_zero}
use Rattle.rings.proofs.Signs.{never_positive, never_below, never_above, not_negative_or, zero_between, natural, factor_not_negative, product_zero_second}
use Rattle.rings.specs.Lines.{Triple, zero_triple, opposite_triple, multiple, IsInside, HasPositiveFactor}
use Rattle.rings.specs.Lines as lines
use Rattle.rings.proofs.Lines.{mixed_value, mixed_square, inner_moved, value_moved}
use Rattle.rings.proofs.Multiples.{value_at_factor, inner_of_factor}
use Rattle.rings.proofs.LargeMultiples.{IsArchimedean, moved}
open expr use {add as ◌+'◌, sub as ◌-'◌, mul as ◌*'◌, neg as neg', int as int'}

infixl 60 ◌+'◌
infixl 60 ◌-'◌
infixl 70 ◌*'◌
module _ {R : Type 0} (O : Ops R) (L : IsRing O) {P : R → Type 0} (Q : IsOrdered O P) where
  open O use {add as ◌⊕◌, sub as ◌⊖◌, mul as ◌⊗◌, neg as minus, int as num_of}

  infixl 60 ◌⊕◌
  infixl 60 ◌⊖◌
  infixl 70 ◌⊗◌
  abbrev Z : R
  Z = num_of (pos 0)

  abbrev NotNegative : R → Type 0
  NotNegative a = IsNotNegative O P a

  abbrev IsClosed : Triple R → Type 0
  IsClosed q = lines.IsClosed O P q

  abbrev IsForward : Triple R → Type 0
  IsForward q = lines.IsForward O P q

  -- where w = 0 in the closed half-plane, x = 0
  second_zero : (q : Triple R) → IsClosed q → q.0 ≡ Z → q.1 ≡ Z
  second_zero q c e =
      let below : inner_value O q ≡ minus (q.1 ⊗ q.1) =
      (λ i. e i ⊗ q.2 ⊖ q.1 ⊗ q.1) ∙ identity O L (q.1 ∷ q.2 ∷ []) (int' (pos 0) *' var 1 -' var 0 *' var 0) (neg' (var 0 *' var 0)) tt in
      square_zero O L Q q.1 (zero_between O L Q (q.1 ⊗ q.1) (square O L Q q.1) (subst NotNegative below c.inner))

  -- of a place that isn't zero, in the closed half-plane, w or y is positive
  pub closed_forward : (q : Triple R) → IsClosed q → ¬ (q ≡ zero_triple O) → IsForward q
  closed_forward q c some = go c.first c.third
    where
      go : NotNegative q.0 → NotNegative q.2 → IsForward q
      go (inr p) _ = inl p
      go (inl e) (inr p) = inr (e, p)
      go (inl e) (inl f) = let none = second_zero q c e in absurd (some (λ i. (e i, none i, f i)))

  -- no place and its negative are both forward and closed
  pub not_backward : (q : Triple R) → IsForward q → NotNegative (minus q.0) → NotNegative (minus q.2) → ⊥
  not_backward q (inl p) n _ = never_above O L Q q.0 n p
  not_backward q (inr h) _ n = never_above O L Q q.2 n h.1

  -- a form that is positive at every half-plane point is not negative on the boundary
  pub closed_value : IsArchimedean O P → (k q r : Triple R) → IsClosed q → ¬ (q ≡ zero_triple O) → IsInside O P r
      → ((z : Triple R) → IsInside O P z → P (value_at O k z)) → NotNegative (value_at O k q)
  closed_value far k q r c some inside all = go (not_negative_or O L Q (value_at O k q))
    where
      mix : NotNegative (mixed_value O L q r)
      mix = by (closed_forward q c some)
        where
          by : IsForward q → NotNegative (mixed_value O L q r)
          by (inl p) =
              factor_not_negative O L Q (mixed_value O L q r) (q.0 ⊗ r.0)
              (subst NotNegative (sym (mixed_square O L q r) ∙ L.mul_comm _ _)
              (sum_not_negative O L Q _ _ (sum_not_negative O L Q _ _ (inr (Q.product _ _ (Q.product _ _ p p) inside.1)) (product_not_negative O L Q _ _ (inr (Q.product _ _ inside.0 inside.0)) c.inner)) (square O L Q _)))
              (Q.product _ _ p inside.0)
          by (inr h) =
              let flat : q.1 ≡ Z = second_zero q c h.0 in
              subst NotNegative
              (identity O L (q.2 ∷ r.0 ∷ r.1 ∷ r.2 ∷ []) (var 0 *' var 1) ((int' (pos 0) *' var 3 +' var 0 *' var 1) -' (int' (pos 2) *' int' (pos 0)) *' var 2) tt
              ∙ sym (λ i. (h.0 i ⊗ r.2 ⊕ q.2 ⊗ r.0) ⊖ (num_of (pos 2) ⊗ flat i) ⊗ r.1)) (inr (Q.product _ _ h.1 inside.0))

      count : (n : ℕ) → NotNegative (num_of (pos n))
      count n = natural O L Q r.0 inside.0 n

      -- n·q + r is a half-plane point for every n
      near : (n : ℕ) → IsInside O P (moved O L Q q r n)
      near n = (
        subst P (L.add_comm _ _) (sum_more O L Q r.0 (num_of (pos n) ⊗ q.0) inside.0 (product_not_negative O L Q _ _ (count n) c.first)),
        subst P (L.add_comm _ _ ∙ sym (inner_moved O L q r (num_of (pos n))))
            (sum_more O L Q (inner_value O r) _ inside.1 (product_not_negative O L Q _ _ (count n) (sum_not_negative O L Q _ _ (product_not_negative O L Q _ _ (count n) c.inner) mix))),
      )

      go : NotNegative (value_at O k q) ⊎ P (minus (value_at O k q)) → NotNegative (value_at O k q)
      go (inl n) = n
      go (inr n) =
          let e = far (minus (value_at O k q)) (minus (value_at O k r)) n in
          let m = suc e.0 in
          never_below O L Q (value_at O k (moved O L Q q r m)) (inr (all (moved O L Q q r m) (near m)))
          (subst P (identity O L (num_of (pos m) ∷ value_at O k q ∷ value_at O k r ∷ []) (var 0 *' neg' (var 1) +' neg' (var 2)) (neg' (var 0 *' var 1 +' var 2)) tt
          ∙ ap minus (sym (value_moved O L k q r (num_of (pos m))))) (e.1 m (omega arith)))

  -- a product of positive factors on both sides: what is not negative, zero or positive on one side is so on the other
  part_not_negative : (g h a b : R) → P g → P h → g ⊗ a ≡ h ⊗ b → NotNegative b → NotNegative a
  part_not_negative g h a b pg ph e n = factor_not_negative O L Q a g (subst NotNegative (sym e ∙ L.mul_comm _ _) (product_not_negative O L Q h b (inr ph) n)) pg

  part_zero : (g h a b : R) → P g → P h → g ⊗ a ≡ h ⊗ b → a ≡ Z → b ≡ Z
  part_zero g h a b pg ph e z = factor_zero O L Q b h (L.mul_comm b h ∙ sym e ∙ product_zero_second O L Q g a z) ph

  part_positive : (g h a b : R) → P g → P h → g ⊗ a ≡ h ⊗ b → P a → P b
  part_positive g h a b pg ph e p = factor O L Q b h (subst P (e ∙ L.mul_comm h b) (Q.product _ _ pg p)) ph

  -- ---- two places that are one triple without a positive factor each
  module _ (full x y : Triple R) (f : HasPositiveFactor O P full x) (g : HasPositiveFactor O P full y) where
    first_along : f.factor ⊗ x.0 ≡ g.factor ⊗ y.0
    first_along = ap (λ (z : Triple R). z.0) (sym f.out ∙ g.out)

    third_along : f.factor ⊗ x.2 ≡ g.factor ⊗ y.2
    third_along = ap (λ (z : Triple R). z.2) (sym f.out ∙ g.out)

    pub value_along : (k : Triple R) → NotNegative (value_at O k y) → NotNegative (value_at O k x)
    value_along k n =
        part_not_negative f.factor g.factor (value_at O k x) (value_at O k y) f.positive g.positive
        (sym (value_at_factor O L Q full x f k) ∙ value_at_factor O L Q full y g k) n

    pub closed_along : IsClosed y → IsClosed x
    closed_along c = record {
      first = part_not_negative f.factor g.factor x.0 y.0 f.positive g.positive first_along c.first;
      third = part_not_negative f.factor g.factor x.2 y.2 f.positive g.positive third_along c.third;
      inner = part_not_negative (f.factor ⊗ f.factor) (g.factor ⊗ g.factor) (inner_value O x) (inner_value O y) (Q.product _ _ f.positive f.positive) (Q.product _ _ g.positive g.positive)
          (sym (inner_of_factor O L Q full x f) ∙ inner_of_factor O L Q full y g) c.inner;
    }

    pub forward_along : IsForward x → IsForward y
    forward_along (inl p) = inl (part_positive f.factor g.factor x.0 y.0 f.positive g.positive first_along p)
    forward_along (inr h) = inr (part_zero f.factor g.factor x.0 y.0 f.positive g.positive first_along h.0, part_positive f.factor g.factor x.2 y.2 f.positive g.positive third_along h.1)

    -- where w and y of the one are zero, the other isn't closed, unless it is zero
    pub no_closed : x.0 ≡ Z → x.2 ≡ Z → ¬ (y ≡ zero_triple O) → IsClosed y → ⊥
    no_closed e t some closed = go (closed_forward y closed some)
      where
        go : IsForward y → ⊥
        go (inl p) = never_positive O L Q y.0 (part_zero f.factor g.factor x.0 y.0 f.positive g.positive first_along e) p
        go (inr p) = never_positive O L Q y.2 (part_zero f.factor g.factor x.2 y.2 f.positive g.positive third_along t) p.1

  -- a forward place and a closed one aren't opposite
  pub not_opposite : (full x y : Triple R) → HasPositiveFactor O P full x → HasPositiveFactor O P (opposite_triple O full) y → IsForward x → IsClosed y → ⊥
  not_opposite full x y f g forward closed =
      not_backward x forward (part x.0 y.0 full.0 (ap (λ (z : Triple R). z.0) f.out) (ap (λ (z : Triple R). z.0) g.out) closed.first)
      (part x.2 y.2 full.2 (ap (λ (z : Triple R). z.2) f.out) (ap (λ (z : Triple R). z.2) g.out) closed.third)
    where
      part : (a b c : R) → c ≡ f.factor ⊗ a → minus c ≡ g.factor ⊗ b → NotNegative b → NotNegative (minus a)
      part a b c e h n =
          part_not_negative f.factor g.factor (minus a) b f.positive g.positive
          (identity O L (f.factor ∷ a ∷ []) (var 0 *' neg' (var 1)) (neg' (var 0 *' var 1)) tt ∙ ap minus (sym e) ∙ h) n
