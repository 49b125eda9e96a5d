-- Large multiples of a place inside the parabola with a direction added: what is positive there; in every ordered ring with the archimedean law.
use Rattle.std.proofs.Common.{◌≡◌, ℕ, zero, suc, ◌+◌, ◌<◌, [], ◌∷◌, subst, sym, ap, ◌∙◌, arith, below_more}
use mathlib.Core.Logic.{inl, inr}
use Rattle.std.specs.Prelude.{pos, ◌⊎◌}
use Rattle.rings.specs.Ring.{Ops, IsRing, var, expr}
use Rattle.rings.specs.Order.{IsOrdered}
use Rattle.rings.specs.Forms.{inner_value, value_at}
use Rattle.rings.proofs.Solver.{identity}
use Rattle.rings.proofs.Ordered.{sum_more, product_not_negative}
use Rattle.rings.proofs.Signs.{natural}
use Rattle.rings.specs.Lines.{Triple, IsOn, IsInside}
use Rattle.rings.proofs.Lines.{value_moved, inner_moved, mixed_value}
open expr use {add as ◌+'◌, sub as ◌-'◌, mul as ◌*'◌, neg as neg', int as int'}

infixl 60 ◌+'◌
infixl 60 ◌-'◌
infixl 70 ◌*'◌
-- true of every large n
abbrev pub Eventually : (ℕ → Type 0) → Type 0
Eventually A = (N : ℕ) × ((n : ℕ) → N < n → A n)

pub both_eventually : (A B : ℕ → Type 0) → Eventually A → Eventually B → Eventually (λ n. A n × B n)
both_eventually A B a b = (a.0 + b.0, λ n h. (a.1 n (omega arith), b.1 n (omega arith)))

pub each_eventually : (A : ℕ → ℕ → Type 0) (m : ℕ) → ((i : ℕ) → i < m → Eventually (A i)) → Eventually (λ n. (i : ℕ) → i < m → A i n)
each_eventually A zero f = (0, λ n h i under. absurd (omega arith))
each_eventually A (suc m) f =
    let rest : Eventually (λ n. (i : ℕ) → i < m → A i n) = each_eventually A m (λ i under. f i (omega arith)) in
    let last : Eventually (A m) = f m (omega arith) in
    (rest.0 + last.0, λ n h i under. below_more (λ i. A i n) m (rest.1 n (omega arith)) (last.1 n (omega arith)) i (omega arith))

one_and : (m : ℕ) → 1 + m ≡ suc m
one_and m = omega arith

-- the archimedean law: large multiples of a positive value exceed any other
abbrev pub IsArchimedean : {R : Type 0} → Ops R → (R → Type 0) → Type 0
IsArchimedean {R} O P = (p r : R) → P p → Eventually (λ n. P (O.add (O.mul (O.int (pos n)) p) r))

module _ {R : Type 0} (O : Ops R) (L : IsRing O) {P : R → Type 0} (Q : IsOrdered O P) where
  open O use {add as ◌⊕◌, sub as ◌⊖◌, mul as ◌⊗◌, neg as minus, int as num_of}

  infixl 60 ◌⊕◌
  infixl 60 ◌⊖◌
  infixl 70 ◌⊗◌
  abbrev Z : R
  Z = num_of (pos 0)

  -- n·p + v
  abbrev pub moved : Triple R → Triple R → ℕ → Triple R
  moved p v n = (num_of (pos n) ⊗ p.0 ⊕ v.0, num_of (pos n) ⊗ p.1 ⊕ v.1, num_of (pos n) ⊗ p.2 ⊕ v.2)

  module _ (far : IsArchimedean O P) (p v : Triple R) (inside : IsInside O P p) where
    abbrev I : R
    I = inner_value O p

    abbrev M : R
    M = mixed_value O L p v

    abbrev r : R
    r = inner_value O v

    inner_at : (n : ℕ) → P (num_of (pos n) ⊗ I ⊕ M) → P (num_of (pos n) ⊗ I ⊕ (M ⊕ r)) → 0 < n → P (inner_value O (moved p v n))
    inner_at zero a b h = absurd (omega arith)
    inner_at (suc m) a b h =
        let n : R = num_of (pos (suc m)) in
        let e : R = n ⊗ I ⊕ M in
        subst P
        (identity O L (n ∷ I ∷ M ∷ r ∷ num_of (pos m) ∷ []) (((var 0 *' var 1) +' (var 2 +' var 3)) +' var 4 *' (var 0 *' var 1 +' var 2)) ((int' (pos 1) +' var 4) *' (var 0 *' var 1 +' var 2) +' var 3) tt
        ∙ ap (λ (x : R). x ⊗ e ⊕ r) (sym (L.int-add (pos 1) (pos m)) ∙ ap (λ k. num_of (pos k)) (one_and m))
        ∙ sym (inner_moved O L p v n))
        (sum_more O L Q _ _ b (product_not_negative O L Q _ _ (natural O L Q p.0 inside.0 m) (inr a)))

    -- large multiples of a half-plane point, moved, are half-plane points
    pub inside_moved : Eventually (λ n. IsInside O P (moved p v n))
    inside_moved =
        let w = far p.0 v.0 inside.0 in
        let a = far I M inside.1 in
        let b = far I (M ⊕ r) inside.1 in
        (w.0 + a.0 + b.0, λ n h. (w.1 n (omega arith), inner_at n (a.1 n (omega arith)) (b.1 n (omega arith)) (omega arith)))

    -- a form that is positive at the point, or zero there and positive in the direction
    abbrev pub Rises : Triple R → Type 0
    Rises k = P (value_at O k p) ⊎ ((value_at O k p ≡ Z) × P (value_at O k v))

    pub value_rises : (k : Triple R) → Rises k → Eventually (λ n. P (value_at O k (moved p v n)))
    value_rises k (inl a) = let e = far (value_at O k p) (value_at O k v) a in (e.0, λ n h. subst P (sym (value_moved O L k p v (num_of (pos n)))) (e.1 n h))
    value_rises k (inr a) = (
      0,
      λ n h. subst P
          (identity O L (value_at O k v ∷ num_of (pos n) ∷ []) (var 0) (var 1 *' int' (pos 0) +' var 0) tt ∙ sym (λ i. num_of (pos n) ⊗ a.0 i ⊕ value_at O k v) ∙ sym (value_moved O L k p v (num_of (pos n)))) a.1,
    )

    module _ (l : Triple R) (on_p : IsOn O l p) (on_v : IsOn O l v) where
      on_moved : (n : ℕ) → IsOn O l (moved p v n)
      on_moved n =
          value_moved O L l p v (num_of (pos n)) ∙ (λ i. num_of (pos n) ⊗ on_p i ⊕ on_v i)
          ∙ identity O L (num_of (pos n) ∷ []) (var 0 *' int' (pos 0) +' int' (pos 0)) (int' (pos 0)) tt

      -- what is sure to be so of a form, or to rise
      each_form : (A : Type 0) (k : Triple R) → A ⊎ Rises k → Eventually (λ n. A ⊎ P (value_at O k (moved p v n)))
      each_form A k (inl a) = (0, λ n h. inl a)
      each_form A k (inr b) = let e = value_rises k b in (e.0, λ n h. inr (e.1 n h))

      -- one half-plane point of the line at which all these forms are positive
      pub point_after : (A : ℕ → Type 0) (forms : ℕ → Triple R) (count : ℕ) → ((i : ℕ) → i < count → A i ⊎ Rises (forms i))
          → (q : Triple R) × IsInside O P q × IsOn O l q × ((i : ℕ) → i < count → A i ⊎ P (value_at O (forms i) q))
      point_after A forms count h =
          let e : Eventually (λ n. (i : ℕ) → i < count → A i ⊎ P (value_at O (forms i) (moved p v n))) =
          each_eventually (λ i n. A i ⊎ P (value_at O (forms i) (moved p v n))) count (λ i under. each_form (A i) (forms i) (h i under)) in
          let n : ℕ = suc (inside_moved.0 + e.0) in
          (moved p v n, inside_moved.1 n (omega arith), on_moved n, e.1 n (omega arith))
