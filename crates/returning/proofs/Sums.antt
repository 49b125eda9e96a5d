-- Sums in a ring, over permutations and over pairs.
use Rattle.std.proofs.Common.{◌≡◌, ℕ, zero, suc, ◌<◌, arith, refl, sym, ap, ◌∙◌, subst, [], ◌∷◌, if◌then◌else◌, ◌==◌, inl, inr}
use Rattle.std.specs.Prelude.{pos}
use mathlib.Core.Path.{ap₂}
use Rattle.std.proofs.lemmas.Bool.{cases_eq}
use Rattle.rings.specs.Ring.{Ops, IsRing, var, expr}
use Rattle.rings.specs.Order.{IsOrdered}
use Rattle.rings.proofs.Solver.{identity}
use Rattle.rings.proofs.Factors.{cancel_positive}
use Rattle.tri_core.specs.Images.{AreInverse}
use Rattle.tri_core.proofs.CallerLemmas.{inverse_swapped}
use Rattle.returning.specs.Areas.{total}

-- f on the numbers below m, where m's own value stands in the place of m
abbrev without : ℕ → (ℕ → ℕ) → ℕ → ℕ
without m f i = if f i == m then f m else f i

without_at : (m : ℕ) (f : ℕ → ℕ) (i : ℕ) → f i ≡ m → without m f i ≡ f m
without_at m f i e = grind arith

without_other : (m : ℕ) (f : ℕ → ℕ) (i : ℕ) → ¬ (f i ≡ m) → without m f i ≡ f i
without_other m f i e = grind arith

smaller : (k m : ℕ) → k < suc m → ¬ (k ≡ m) → k < m
smaller k m p n = omega (arith, p, n)

not_less : (i m : ℕ) → i < m → i ≡ m → ⊥
not_less i m p e = omega (arith, p, e)

module _ (m : ℕ) (f g : ℕ → ℕ) (b : AreInverse (suc m) f g) where
  wider : {i : ℕ} → i < m → i < suc m
  wider p = omega (arith, p)

  last : m < suc m
  last = omega arith

  -- where f takes a number to m, no other is taken there
  apart : (i : ℕ) → i < m → f i ≡ f m → ⊥
  apart i p e = not_less i m p (sym (b.back_forth i (wider p)) ∙ ap g e ∙ b.back_forth m last)

  without_inside : (i : ℕ) → i < m → without m f i < m
  without_inside i p = elim (cases_eq (f i) m) [
    | inl e ↦ subst (λ k. k < m) (sym (without_at m f i e)) (smaller (f m) m (b.forth_inside m last) (λ z. apart i p (e ∙ sym z)))
    | inr n ↦ subst (λ k. k < m) (sym (without_other m f i n)) (smaller (f i) m (b.forth_inside i (wider p)) n)
  ]

  without_back : (i : ℕ) → i < m → without m g (without m f i) ≡ i
  without_back i p = elim (cases_eq (f i) m) [
    | inl e ↦ ap (without m g) (without_at m f i e) ∙ without_at m g (f m) (b.back_forth m last) ∙ ap g (sym e) ∙ b.back_forth i (wider p)
    | inr n ↦ ap (without m g) (without_other m f i n) ∙ without_other m g (f i) (λ z. not_less i m p (sym (b.back_forth i (wider p)) ∙ z)) ∙ b.back_forth i (wider p)
  ]

without_inverse : (m : ℕ) (f g : ℕ → ℕ) → AreInverse (suc m) f g → AreInverse m (without m f) (without m g)
without_inverse m f g b = record {
  forth_inside = without_inside m f g b;
  back_inside = without_inside m g f (inverse_swapped (suc m) f g b);
  back_forth = without_back m f g b;
  forth_back = without_back m g f (inverse_swapped (suc m) f g b);
}

module _ {R : Type 0} (O : Ops R) (L : IsRing O) where
  -- equal values have equal sums
  pub total_same : (n : ℕ) (u v : ℕ → R) → ((k : ℕ) → k < n → u k ≡ v k) → total O n u ≡ total O n v
  total_same zero u v e = refl
  total_same (suc n) u v e = ap₂ O.add (total_same n u v (λ k p. e k (omega (arith, p)))) (e n (omega arith))

  -- c·Σ u = Σ c·u
  pub total_times : (c : R) (n : ℕ) (u : ℕ → R) → O.mul c (total O n u) ≡ total O n (λ k. O.mul c (u k))
  total_times c zero u = identity O L (c ∷ []) (expr.mul (var 0) (expr.int (pos 0))) (expr.int (pos 0)) tt
  total_times c (suc n) u =
      identity O L (c ∷ total O n u ∷ u n ∷ []) (expr.mul (var 0) (expr.add (var 1) (var 2))) (expr.add (expr.mul (var 0) (var 1)) (expr.mul (var 0) (var 2))) tt
      ∙ ap (λ x. O.add x (O.mul c (u n))) (total_times c n u)

  -- Σ u + Σ v = Σ (u + v)
  total_sum : (n : ℕ) (u v : ℕ → R) → O.add (total O n u) (total O n v) ≡ total O n (λ k. O.add (u k) (v k))
  total_sum zero u v = identity O L [] (expr.add (expr.int (pos 0)) (expr.int (pos 0))) (expr.int (pos 0)) tt
  total_sum (suc n) u v =
      identity O L (total O n u ∷ u n ∷ total O n v ∷ v n ∷ []) (expr.add (expr.add (var 0) (var 1)) (expr.add (var 2) (var 3))) (expr.add (expr.add (var 0) (var 2)) (expr.add (var 1) (var 3))) tt
      ∙ ap (λ x. O.add x (O.add (u n) (v n))) (total_sum n u v)

  -- values that differ at one place alone
  total_exchange : (n j : ℕ) (u v : ℕ → R) → j < n → ((i : ℕ) → i < n → ¬ (i ≡ j) → u i ≡ v i) → O.add (total O n u) (v j) ≡ O.add (total O n v) (u j)
  total_exchange zero j u v p e = absurd (omega (arith, p))
  total_exchange (suc n) j u v p e = elim (cases_eq n j) [
    | inl z ↦
        ap (λ x. O.add (O.add x (u n)) (v j)) (total_same n u v (λ i q. e i (omega (arith, q)) (omega (arith, q, z))))
        ∙ ap (λ k. O.add (O.add (total O n v) (u n)) (v k)) (sym z)
        ∙ identity O L (total O n v ∷ u n ∷ v n ∷ []) (expr.add (expr.add (var 0) (var 1)) (var 2)) (expr.add (expr.add (var 0) (var 2)) (var 1)) tt
        ∙ ap (λ k. O.add (O.add (total O n v) (v n)) (u k)) z
    | inr z ↦
        identity O L (total O n u ∷ u n ∷ v j ∷ []) (expr.add (expr.add (var 0) (var 1)) (var 2)) (expr.add (expr.add (var 0) (var 2)) (var 1)) tt
        ∙ ap₂ O.add (total_exchange n j u v (omega (arith, p, z)) (λ i q. e i (omega (arith, q)))) (e n (omega arith) z)
        ∙ identity O L (total O n v ∷ u j ∷ v n ∷ []) (expr.add (expr.add (var 0) (var 1)) (var 2)) (expr.add (expr.add (var 0) (var 2)) (var 1)) tt
  ]

  -- the sum over a permutation
  pub total_permuted : (n : ℕ) (f g : ℕ → ℕ) (u : ℕ → R) → AreInverse n f g → total O n (λ k. u (f k)) ≡ total O n u
  total_permuted zero f g u b = refl
  total_permuted (suc m) f g u b = step ∙ ap (λ x. O.add x (u m)) (total_permuted m (without m f) (without m g) u (without_inverse m f g b))
    where
      earlier : ¬ (f m ≡ m) → g m < m
      earlier n = smaller (g m) m (b.back_inside m (omega arith)) (λ z. n (ap f (sym z) ∙ b.forth_back m (omega arith)))

      step : O.add (total O m (λ k. u (f k))) (u (f m)) ≡ O.add (total O m (λ k. u (without m f k))) (u m)
      step = elim (cases_eq (f m) m) [
        | inl z ↦
            ap₂ O.add
            (total_same m (λ k. u (f k)) (λ k. u (without m f k)) (λ k p. ap u (sym (without_other m f k (λ y. apart m f g b k p (y ∙ sym z))))))
            (ap u z)
        | inr n ↦
            ap (λ x. O.add (total O m (λ k. u (f k))) (u x)) (sym (without_at m f (g m) (b.forth_back m (omega arith))))
            ∙ total_exchange m (g m) (λ k. u (f k)) (λ k. u (without m f k)) (earlier n)
            (λ i p q. ap u (sym (without_other m f i (λ y. q (sym (b.back_forth i (omega (arith, p))) ∙ ap g y)))))
            ∙ ap (λ x. O.add (total O m (λ k. u (without m f k))) (u x)) (b.forth_back m (omega arith))
      ]

  module _ {P : R → Type 0} (Q : IsOrdered O P) where
    -- a sum of positive values is positive
    pub total_positive : (n : ℕ) (u : ℕ → R) → ((k : ℕ) → k < suc n → P (u k)) → P (total O (suc n) u)
    total_positive zero u p = subst P (sym (L.zero-add (u 0))) (p 0 (omega arith))
    total_positive (suc n) u p = Q.sum _ _ (total_positive n u (λ k q. p k (omega (arith, q)))) (p (suc n) (omega arith))

    -- values that have the same sums over the pairs of an exchange have the same sum
    pub total_paired : P (O.int (pos 2)) → (n : ℕ) (f : ℕ → ℕ) (u v : ℕ → R) → AreInverse n f f → ((k : ℕ) → k < n → O.add (u k) (u (f k)) ≡ O.add (v k) (v (f k))) → total O n u ≡ total O n v
    total_paired two n f u v b e =
        cancel_positive O L Q (O.int (pos 2)) (total O n u) (total O n v) two
        (twice u ∙ total_same n (λ k. O.add (u k) (u (f k))) (λ k. O.add (v k) (v (f k))) e ∙ sym (twice v))
      where
        twice : (u : ℕ → R) → O.mul (O.int (pos 2)) (total O n u) ≡ total O n (λ k. O.add (u k) (u (f k)))
        twice u =
            identity O L (total O n u ∷ []) (expr.mul (expr.int (pos 2)) (var 0)) (expr.add (var 0) (var 0)) tt
            ∙ ap (O.add (total O n u)) (sym (total_permuted n f f u b)) ∙ total_sum n u (λ k. u (f k))
