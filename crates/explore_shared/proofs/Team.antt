-- Elements that all have a property, one by one.
use Rattle.std.proofs.Common.{◌≡◌, ℕ, zero, suc, ◌+◌, List, [], ◌∷◌, ◌++◌, length, drop, take, sym, subst, arith, ⊎_elim}
use Rattle.terrain.specs.Places.{IsAt}
use Rattle.terrain.proofs.CallerLemmas.{at_snoc, snoc_left, snoc_end}

module _ {A : Type 0} where
  -- each element has the property
  abbrev pub Each : (A → Type 0) → List A → Type 0
  Each P xs = (i : ℕ) (x : A) → IsAt xs i x → P x

  pub each_snoc : (P : A → Type 0) (xs ys : List A) (y : A) → ys ≡ xs ++ y ∷ [] → Each P xs → P y → Each P ys
  each_snoc P xs ys y is each last i x at = ⊎_elim
      (λ (h : IsAt xs i x). each i x h)
      (λ (h : (i ≡ length xs) × (y ≡ x)). subst P h.1 last)
      (at_snoc xs i y x (subst (λ (l : List A). IsAt l i x) is at))

  pub each_front : (P : A → Type 0) (xs ys : List A) (y : A) → ys ≡ xs ++ y ∷ [] → Each P ys → Each P xs
  each_front P xs ys y is each i x at = each i x (subst (λ (l : List A). IsAt l i x) (sym is) (snoc_left xs i y x at))

  pub each_last : (P : A → Type 0) (xs ys : List A) (y : A) → ys ≡ xs ++ y ∷ [] → Each P ys → P y
  each_last P xs ys y is each = each (length xs) y (subst (λ (l : List A). IsAt l (length xs) y) (sym is) (snoc_end xs y))

  pub at_drop : (xs : List A) (n i j : ℕ) (u : A) → j ≡ n + i → IsAt (drop n xs) i u → IsAt xs j u
  at_drop [] zero i j u e at = cc
  at_drop [] (suc n) i j u e at = cc
  at_drop (x ∷ xs) zero i j u e at = subst (λ (m : ℕ). IsAt (x ∷ xs) m u) (let h : i ≡ j = omega (arith, e) in h) at
  at_drop (x ∷ xs) (suc n) i zero u e at = absurd (omega (arith, e))
  at_drop (x ∷ xs) (suc n) i (suc j) u e at = at_drop xs n i j u (omega (arith, e)) at

  pub at_take : (xs : List A) (n i : ℕ) (u : A) → IsAt (take n xs) i u → IsAt xs i u
  at_take [] zero i u at = cc
  at_take [] (suc n) i u at = cc
  at_take (x ∷ xs) zero i u at = cc
  at_take (x ∷ xs) (suc n) zero u at = at
  at_take (x ∷ xs) (suc n) (suc i) u at = at_take xs n i u at
