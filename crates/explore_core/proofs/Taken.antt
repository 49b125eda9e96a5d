-- Items taken out one by one.
use Rattle.std.proofs.Common.{◌≡◌, ◌≢◌, ℕ, ◌+◌, ◌<◌, ◌≤◌, List, [], ◌∷◌, ◌++◌, length, set, get_or, Option, Some, None, sym, ◌∙◌, subst, arith}
use Rattle.std.proofs.lemmas.Option.{get_or_from_slice_get, slice_get-get_or}
use mathlib.Core.Logic.{dite}
use native.Mathlib.Decide.{ℕ_discrete}
use Rattle.explore_core.specs.Ranks.{ArePlaces}
use Rattle.terrain.specs.Places.{IsAt}
use Rattle.terrain.proofs.CallerLemmas.{set_else, snoc_left, snoc_end, read, at_one}

module _ {X : Type 0} (items : List X) (places : List ℕ) (n : ℕ) (p : ArePlaces n places) (left : List (Option X)) (ordered : List X) (k : ℕ) (within : k < length places) (len : length ordered ≡ k) (kept : (i a : ℕ) (x : X) → k ≤ i → IsAt places i a → IsAt items a x → IsAt left a (Some x)) (done : (i a : ℕ) (x : X) → i < k → IsAt places i a → IsAt items a x → IsAt ordered i x) where
  here : IsAt places k (get_or places k 0)
  here = slice_get-get_or places k 0 within

  pub there : n ≡ length items → (o : Option X) → o ≡ get_or left (get_or places k 0) o → o ≡ None → ⊥
  there size o is none =
      let x = read items (get_or places k 0) (let w = p.within k (get_or places k 0) here in omega arith) in
      let f = get_or_from_slice_get left (get_or places k 0) (Some x.0) o (kept k (get_or places k 0) x.0 (omega arith) here x.1) in
      let e : None ≡ Some x.0 = sym none ∙ is ∙ f in cc

  pub kept_more : (i a : ℕ) (x : X) → k + 1 ≤ i → IsAt places i a → IsAt items a x → IsAt (set left (get_or places k 0) None) a (Some x)
  kept_more i a x h at item = set_else left (get_or places k 0) a None (Some x) (λ e. absurd (let same = p.once i k (get_or places k 0) (subst (λ (b : ℕ). IsAt places i b) e at) here in omega arith)) (kept i a x (omega arith) at item)

  pub done_more : (y : X) (o : Option X) → o ≡ get_or left (get_or places k 0) o → o ≡ Some y → (i a : ℕ) (x : X) → i < k + 1 → IsAt places i a → IsAt items a x → IsAt (ordered ++ y ∷ []) i x
  done_more y o is some i a x h at item = dite (ℕ_discrete i k)
      (λ (e : i ≡ k).
      let a_is : get_or places k 0 ≡ a = at_one places k (get_or places k 0) a here (subst (λ (j : ℕ). IsAt places j a) e at) in
      let f = get_or_from_slice_get left (get_or places k 0) (Some x) o (subst (λ (b : ℕ). IsAt left b (Some x)) (sym a_is) (kept i a x (omega arith) at item)) in
      let same : Some y ≡ Some x = sym some ∙ is ∙ f in
      let yx : y ≡ x = cc in
      subst (λ (j : ℕ). IsAt (ordered ++ y ∷ []) j x) (len ∙ sym e) (subst (λ (z : X). IsAt (ordered ++ y ∷ []) (length ordered) z) yx (snoc_end ordered y)))
      (λ (ne : i ≢ k). snoc_left ordered i y x (done i a x (omega arith) at item))
