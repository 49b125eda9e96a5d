-- Elements with different numbers, in whichever order.
use Rattle.std.proofs.Common.{◌≡◌, ◌≢◌, ℕ, ◌<◌, List, length, set, Some, refl, sym, ap, ◌∙◌, subst, arith, ⊎_elim, inl, inr}
use Rattle.std.specs.Prelude.{◌⊎◌, get_or}
use Rattle.std.specs.List.{swap}
use Rattle.std.specs.List.Sorted.{IsPermutation}
use Rattle.std.proofs.lemmas.Option.{get_or_from_slice_get}
use Rattle.std.proofs.lemmas.List.Edits.{swap_is}
use Rattle.std.proofs.lemmas.List.Sorted.{IsPermutation-keeps, IsPermutation-sym, Contains-permutation}
use Rattle.terrain.specs.Places.{IsAt}
use Rattle.terrain.proofs.CallerLemmas.{at_set, read}
use Rattle.explore_shared.proofs.Appended.{contains_at, at_contained}

-- where the element at place i of a list stood before those at a and b were exchanged
abbrev WasAt : (a b i m : ℕ) → Type 0
WasAt a b i m = ((i ≡ b) × (m ≡ a)) ⊎ (((i ≢ b) × (i ≡ a) × (m ≡ b)) ⊎ ((i ≢ b) × (i ≢ a) × (m ≡ i)))

one_place : (a b i j m n : ℕ) → m ≡ n → WasAt a b i m → WasAt a b j n → i ≡ j
one_place a b i j m n e (inl p) (inl q) = let p0 = p.0 in let q0 = q.0 in omega arith
one_place a b i j m n e (inl p) (inr (inl q)) = let p0 = p.0 in let p1 = p.1 in let q1 = q.1 in let q2 = q.2 in omega arith
one_place a b i j m n e (inl p) (inr (inr q)) = let p1 = p.1 in let q1 = q.1 in let q2 = q.2 in omega arith
one_place a b i j m n e (inr (inl p)) (inl q) = let p1 = p.1 in let p2 = p.2 in let q0 = q.0 in let q1 = q.1 in omega arith
one_place a b i j m n e (inr (inl p)) (inr (inl q)) = let p1 = p.1 in let q1 = q.1 in omega arith
one_place a b i j m n e (inr (inl p)) (inr (inr q)) = let p2 = p.2 in let q0 = q.0 in let q2 = q.2 in omega arith
one_place a b i j m n e (inr (inr p)) (inl q) = let p1 = p.1 in let p2 = p.2 in let q1 = q.1 in omega arith
one_place a b i j m n e (inr (inr p)) (inr (inl q)) = let p0 = p.0 in let p2 = p.2 in let q2 = q.2 in omega arith
one_place a b i j m n e (inr (inr p)) (inr (inr q)) = let p2 = p.2 in let q2 = q.2 in omega arith

module _ {A : Type 0} where
  origin : (xs : List A) (a b : ℕ) → a < length xs → b < length xs → (i : ℕ) (u : A) → IsAt (swap xs a b) i u → (m : ℕ) × IsAt xs m u × WasAt a b i m
  origin xs a b in_a in_b i u at =
      let x = read xs a in_a in
      let y = read xs b in_b in
      let is : set (set xs a (get_or xs b x.0)) b (get_or xs a x.0) ≡ swap xs a b = swap_is xs a b x.0 in_a in_b in
      let one : set (set xs a y.0) b (get_or xs a x.0) ≡ swap xs a b = subst (λ (v : A). set (set xs a v) b (get_or xs a x.0) ≡ swap xs a b) (get_or_from_slice_get xs b y.0 x.0 y.1) is in
      let both : set (set xs a y.0) b x.0 ≡ swap xs a b = subst (λ (v : A). set (set xs a y.0) b v ≡ swap xs a b) (get_or_from_slice_get xs a x.0 x.0 x.1) one in
      ⊎_elim
      (λ (h : (i ≡ b) × (x.0 ≡ u)). (a, x.1 ∙ ap Some h.1, inl (h.0, refl)))
      (λ (h : (i ≢ b) × IsAt (set xs a y.0) i u). ⊎_elim
      (λ (k : (i ≡ a) × (y.0 ≡ u)). (b, y.1 ∙ ap Some k.1, inr (inl (h.0, k.0, refl))))
      (λ (k : (i ≢ a) × IsAt xs i u). (i, k.1, inr (inr (h.0, k.0, refl))))
      (at_set xs a i y.0 u h.1))
      (at_set (set xs a y.0) b i x.0 u (subst (λ (l : List A). IsAt l i u) (sym both) at))

  -- what stands in a list stands in each order of it
  pub still_there : (xs ys : List A) (i : ℕ) (x : A) → IsPermutation xs ys → IsAt xs i x → (j : ℕ) × IsAt ys j x
  still_there xs ys i x same at = at_contained ys x (Contains-permutation xs ys x same (contains_at xs i x at))

  pub was_there : (xs ys : List A) (i : ℕ) (x : A) → IsPermutation xs ys → IsAt ys i x → (j : ℕ) × IsAt xs j x
  was_there xs ys i x same at = still_there ys xs i x (IsPermutation-sym xs ys same) at

  module _ (number : A → ℕ) where
    -- no two have one number
    abbrev pub AreApart : List A → Type 0
    AreApart xs = (i j : ℕ) (x y : A) → IsAt xs i x → IsAt xs j y → number x ≡ number y → i ≡ j

    swap_apart : (xs : List A) (a b : ℕ) → a < length xs → b < length xs → AreApart xs → AreApart (swap xs a b)
    swap_apart xs a b in_a in_b apart i j x y at at' same =
        let o = origin xs a b in_a in_b i x at in
        let q = origin xs a b in_a in_b j y at' in
        one_place a b i j o.0 q.0 (apart o.0 q.0 x y o.1 q.1 same) o.2 q.2

    pub permuted_apart : (xs ys : List A) → IsPermutation xs ys → AreApart xs → AreApart ys
    permuted_apart xs ys same apart = IsPermutation-keeps xs AreApart apart swap_apart ys same
