-- Elements of two lists, one behind the other.
use Rattle.std.proofs.Common.{◌≡◌, ℕ, zero, suc, ◌+◌, List, [], ◌∷◌, ◌++◌, length, Some, sym, ap, ◌∙◌, subst, arith, ⊎_elim, inl, inr}
use Rattle.std.specs.Prelude.{◌⊎◌, Contains}
use Rattle.std.proofs.lemmas.Option.{get_or_from_slice_get}
use Rattle.terrain.specs.Places.{IsAt}
use Rattle.terrain.proofs.CallerLemmas.{at_within, read}

module _ {A : Type 0} where
  pub left_at : (xs ys : List A) (i : ℕ) (u : A) → IsAt xs i u → IsAt (xs ++ ys) i u
  left_at [] ys i u at = cc
  left_at (x ∷ xs) ys zero u at = at
  left_at (x ∷ xs) ys (suc i) u at = left_at xs ys i u at

  pub right_at : (xs ys : List A) (i j : ℕ) (u : A) → j ≡ length xs + i → IsAt ys i u → IsAt (xs ++ ys) j u
  right_at [] ys i j u e at = subst (λ (n : ℕ). IsAt ys n u) (let h : i ≡ j = omega (arith, e) in h) at
  right_at (x ∷ xs) ys i zero u e at = absurd (omega (arith, e))
  right_at (x ∷ xs) ys i (suc j) u e at = right_at xs ys i j u (omega (arith, e)) at

  pub at_append : (xs ys : List A) (j : ℕ) (u : A) → IsAt (xs ++ ys) j u → IsAt xs j u ⊎ ((m : ℕ) × (j ≡ length xs + m) × IsAt ys m u)
  at_append [] ys j u at = inr (j, omega arith, at)
  at_append (x ∷ xs) ys zero u at = inl at
  at_append (x ∷ xs) ys (suc j) u at = ⊎_elim
      (λ (h : IsAt xs j u). inl h)
      (λ (h : (m : ℕ) × (j ≡ length xs + m) × IsAt ys m u). inr (h.0, (let e = h.1 in omega arith), h.2))
      (at_append xs ys j u at)

  -- what stands at a place is contained, and what is contained stands at one
  pub contains_at : (xs : List A) (i : ℕ) (x : A) → IsAt xs i x → Contains xs x
  contains_at xs i x at = (i, at_within xs i x at, get_or_from_slice_get xs i x x at)

  pub at_contained : (xs : List A) (x : A) → Contains xs x → (i : ℕ) × IsAt xs i x
  at_contained xs x c = let r = read xs c.0 c.1 in (c.0, r.1 ∙ ap Some (sym (get_or_from_slice_get xs c.0 r.0 x r.1) ∙ c.2))
