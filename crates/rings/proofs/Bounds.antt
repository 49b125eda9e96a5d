-- One pass along a line: which forms leave it a half-plane point at which they are positive; in every ordered ring with the archimedean law.
use Rattle.std.proofs.Common.{◌≡◌, ℕ, ◌<◌, [], ◌∷◌, subst, sym, ap, ◌∙◌}
use mathlib.Core.Logic.{inl, inr}
use Rattle.std.specs.Prelude.{pos, ◌⊎◌}
use Rattle.rings.specs.Ring.{Ops, IsRing, var, expr}
use Rattle.rings.specs.Order.{IsOrdered, Sign, is_zero, is_positive, is_negative, IsNotNegative}
use Rattle.rings.specs.Forms.{inner_value, value_at}
use Rattle.rings.proofs.Solver.{identity}
use Rattle.rings.proofs.Ordered.{factor, square_positive, not_both_signs}
use Rattle.rings.proofs.Signs.{never_positive, never_negative, never_below, zero_not_positive, product_zero, product_zero_second, zero_product_first}
use Rattle.rings.specs.Lines.{Triple, crossing_point, zero_triple, multiple, IsOn, IsInside, IsPositiveMultiple}
use Rattle.rings.specs.Bounds as bounds
use Rattle.rings.proofs.Lines.{direction, direction_value}
use Rattle.rings.proofs.Sides.{opposed, behind_first, behind_second, flat}
use Rattle.rings.proofs.Mixtures.{outside}
use Rattle.rings.proofs.Multiples.{multiple_crossing, multiple_direction, multiple_zero, parallel_value, value_at_multiple}
use Rattle.rings.proofs.LargeMultiples.{IsArchimedean, point_after}
open expr use {add as ◌+'◌, sub as ◌-'◌, mul as ◌*'◌, neg as neg', int as int'}

infixl 60 ◌+'◌
infixl 60 ◌-'◌
infixl 70 ◌*'◌
module _ {R : Type 0} (O : Ops R) (L : IsRing O) {P : R → Type 0} (Q : IsOrdered O P) (l : Triple R) (some : ¬ (l ≡ zero_triple O)) where
  open O use {add as ◌⊕◌, sub as ◌⊖◌, mul as ◌⊗◌, neg as minus, int as num_of}

  infixl 60 ◌⊕◌
  infixl 60 ◌⊖◌
  infixl 70 ◌⊗◌
  abbrev Z : R
  Z = num_of (pos 0)

  abbrev NotPositive : R → Type 0
  NotPositive a = IsNotNegative O P (minus a)

  abbrev NotNegative : R → Type 0
  NotNegative a = IsNotNegative O P a

  abbrev rate : Triple R → R
  rate k = bounds.rate O l k

  -- the forms of the line itself
  abbrev Own : Triple R → Type 0
  Own k = IsPositiveMultiple O P l k

  abbrev Parallel : Triple R → Type 0
  Parallel k = crossing_point O l k ≡ zero_triple O

  -- a form that rises or falls isn't the line's own
  moving_not_own : (k : Triple R) → ¬ (rate k ≡ Z) → ¬ (Own k)
  moving_not_own k moves own = moves (ap (λ (x : Triple R). x.0) (multiple_crossing O L Q l k own))

  module _ (forms : ℕ → Triple R) (count : ℕ) where
    abbrev HasPoint : Type 0
    HasPoint = bounds.HasPoint O P l forms count

    -- ---- when there is none
    pub no_parallel : (i : ℕ) → i < count → Parallel (forms i) → ¬ (P (value_at O l (forms i))) → ¬ HasPoint
    no_parallel i under none against h =
        never_positive O L Q (value_at O (forms i) h.0) (parallel_value O L Q l (forms i) h.0 some none h.2) (h.3 i under (λ own. against (multiple_direction O L Q l (forms i) some own)))

    pub no_flat : (i : ℕ) → i < count → ¬ (Parallel (forms i)) → rate (forms i) ≡ Z → (p : Triple R) → IsOn O l p → P p.0 → NotPositive (value_at O (forms i) p) → ¬ HasPoint
    no_flat i under apart still p on pw at h =
        flat O L Q l (forms i) some p h.0 on h.2 pw h.1.0 still at (h.3 i under (λ own. apart (multiple_crossing O L Q l (forms i) own)))

    pub no_opposed : (i j : ℕ) → i < count → j < count → P (minus (rate (forms i) ⊗ rate (forms j))) → (p : Triple R) → IsOn O l p → P p.0
        → NotPositive (value_at O (forms i) p) → NotPositive (value_at O (forms j) p) → ¬ HasPoint
    no_opposed i j ui uj apart p on pw at_i at_j h =
        opposed O L Q l (forms i) (forms j) p h.0 on h.2 pw h.1.0 apart at_i at_j
        (h.3 i ui (moving_not_own (forms i) (λ e. never_negative O L Q (rate (forms i) ⊗ rate (forms j)) (product_zero O L Q _ _ e) apart)))
        (h.3 j uj (moving_not_own (forms j) (λ e. never_negative O L Q (rate (forms i) ⊗ rate (forms j)) (product_zero_second O L Q _ _ e) apart)))

    pub no_outside : (i : ℕ) → i < count → ¬ (rate (forms i) ≡ Z) → (p : Triple R) → IsInside O P p → IsOn O l p → NotPositive (value_at O (forms i) p)
        → ¬ (P (inner_value O (crossing_point O l (forms i)))) → ¬ HasPoint
    no_outside i under moves p inside on at none h =
        none (outside O L Q l (forms i) p h.0 inside h.1 on h.2 (λ e. moves (ap (λ (x : Triple R). x.0) e)) at (h.3 i under (moving_not_own (forms i) moves)))

    -- ---- from a start on the line
    module _ (start : Triple R) (inside : IsInside O P start) (on : IsOn O l start) where
      abbrev IsBound : Triple R → Triple R → Type 0
      IsBound e p = bounds.IsBound O P l start e p

      abbrev AtStart : Triple R → Type 0
      AtStart k = bounds.AtStart O P l start k

      abbrev AtBound : Triple R → Triple R → Triple R → Type 0
      AtBound e p k = bounds.AtBound O P l start e p k

      abbrev IsBehind : Triple R → Triple R → Triple R → Type 0
      IsBehind e p k = bounds.IsBehind O P l e p k

      -- the first bound
      pub start_to_bound : (e p k : Triple R) → AtStart k → AtBound e p k
      start_to_bound e p k (inl own) = inl own
      start_to_bound e p k (inr at) = inr (inl at)

      pub bound_itself : (e p : Triple R) → IsBound e p → AtBound e p e
      bound_itself e p b = inr (inr (square_positive O L Q (rate e) b.moves, inl b.vanishes))

      -- a further bound of the same direction
      same_through : (a b c : R) → P (a ⊗ b) → P (c ⊗ b) → P (a ⊗ c)
      same_through a b c p q =
          factor O L Q (a ⊗ c) (b ⊗ b)
          (subst P (identity O L (a ∷ b ∷ c ∷ []) ((var 0 *' var 1) *' (var 2 *' var 1)) ((var 0 *' var 2) *' (var 1 *' var 1)) tt) (Q.product _ _ p q))
          (square_positive O L Q b (λ e. never_positive O L Q (a ⊗ b) (product_zero_second O L Q a b e) p))

      pub bound_moves : (e p k r : Triple R) → IsBound e p → IsBound k r → P (rate k ⊗ rate e) → P (minus (value_at O k p)) → (j : Triple R) → AtBound e p j → AtBound k r j
      bound_moves e p k r b c same past j (inl own) = inl own
      bound_moves e p k r b c same past j (inr (inl at)) = inr (inl at)
      bound_moves e p k r b c same past j (inr (inr h)) =
          let same_j = same_through (rate j) (rate e) (rate k) h.0 same in
          inr (inr (same_j, inr (behind_second O L Q l j k p r b.on_line c.on_line b.forward c.forward same_j c.vanishes h.1 past)))

      -- looked at from the bound: a form that vanishes there
      pub vanishing_own : (e p k : Triple R) → Parallel k → AtBound e p k → Own k
      vanishing_own e p k none (inl own) = own
      vanishing_own e p k none (inr (inl at)) = never_positive O L Q (value_at O k start) (parallel_value O L Q l k start some none on) at
      vanishing_own e p k none (inr (inr h)) = never_positive O L Q (rate k ⊗ rate e) (product_zero O L Q _ _ (ap (λ (x : Triple R). x.0) none)) h.0

      -- and a form that is negative there
      pub none_behind : (e p : Triple R) → IsBound e p → (i j : ℕ) → i < count → j < count → forms j ≡ e → P (minus (value_at O (forms i) p)) → AtBound e p (forms i) → ¬ HasPoint
      none_behind e p b i j ui uj is below (inl own) = never_negative O L Q (value_at O (forms i) p) (multiple_zero O L Q l (forms i) p own b.on_line) below
      none_behind e p b i j ui uj is below (inr (inr h)) = never_below O L Q (value_at O (forms i) p) h.1 below
      none_behind e p b i j ui uj is below (inr (inl at)) = go (Q.sign (rate (forms i) ⊗ rate e))
        where
          go : Sign O P (rate (forms i) ⊗ rate e) → ¬ HasPoint
          go (is_zero z) = absurd (flat O L Q l (forms i) some p start b.on_line on b.forward inside.0 (zero_product_first O L Q _ _ b.moves z) (inr below) at)
          go (is_positive s) = not_both_signs O L Q (value_at O (forms i) p) (behind_first O L Q l (forms i) e start p on b.on_line inside.0 b.forward s b.vanishes at b.behind) below
          go (is_negative s) =
              no_opposed i j ui uj (subst (λ (x : Triple R). P (minus (rate (forms i) ⊗ rate x))) (sym is) s) p b.on_line b.forward (inr below)
              (subst (λ (x : Triple R). NotPositive (value_at O x p)) (sym is) (zero_not_positive O L Q (value_at O e p) b.vanishes))

      -- ---- when there is one
      pub point_at_start : ((i : ℕ) → i < count → AtStart (forms i)) → HasPoint
      point_at_start all = (start, inside, on, λ i under other. go (forms i) other (all i under))
        where
          go : (k : Triple R) → ¬ (Own k) → AtStart k → P (value_at O k start)
          go k other (inl own) = absurd (other own)
          go k other (inr at) = at

      pub point_behind : IsArchimedean O P → (e p : Triple R) → IsBound e p → P (inner_value O p) → ((i : ℕ) → i < count → IsBehind e p (forms i)) → HasPoint
      point_behind far e p b within all =
          let v : Triple R = multiple O (rate e) (direction O L l) in
          let at_v : (k : Triple R) → value_at O k v ≡ rate k ⊗ rate e = λ k. value_at_multiple O L (rate e) k (direction O L l) ∙ ap (λ x. rate e ⊗ x) (direction_value O L l k) ∙ L.mul_comm _ _ in
          let on_v : IsOn O l v = at_v l ∙ identity O L (l.1 ∷ l.2 ∷ rate e ∷ []) ((var 0 *' var 1 -' var 1 *' var 0) *' var 2) (int' (pos 0)) tt in
          let rises : (k : Triple R) → IsBehind e p k → Own k ⊎ (P (value_at O k p) ⊎ ((value_at O k p ≡ Z) × P (value_at O k v))) = λ k h. rise k v (at_v k) h in
          let found = point_after O L Q far p v (b.forward, within) l b.on_line on_v (λ i. Own (forms i)) forms count (λ i under. rises (forms i) (all i under)) in
          (found.0, found.1, found.2, λ i under other. pick (forms i) found.0 other (found.3 i under))
        where
          rise : (k v : Triple R) → value_at O k v ≡ rate k ⊗ rate e → IsBehind e p k → Own k ⊎ (P (value_at O k p) ⊎ ((value_at O k p ≡ Z) × P (value_at O k v)))
          rise k v is (inl own) = inl own
          rise k v is (inr (inl at)) = inr (inl at)
          rise k v is (inr (inr h)) = inr (inr (h.0, subst P (sym is) h.1))

          pick : (k q : Triple R) → ¬ (Own k) → Own k ⊎ P (value_at O k q) → P (value_at O k q)
          pick k q other (inl own) = absurd (other own)
          pick k q other (inr at) = at
