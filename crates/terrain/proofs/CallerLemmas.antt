-- What users of the crate may cite: elements by their places, what is reached, and own keys.
use Rattle.std.proofs.Common.{◌≡◌, ◌≢◌, ℕ, zero, suc, ◌<◌, List, [], ◌∷◌, ◌++◌, length, map, set, refl, ap, ◌∙◌, arith, ⊎_elim, inl, inr}
use Rattle.std.specs.Prelude.{◌⊎◌, ℤ, option_map}
use Rattle.std.proofs.lemmas.Option.{slice_get-map}
use Rattle.std.proofs.lemmas.List.{length-map}
use mathlib.Core.Logic.{∥∥₁_elim, ∥∥₁_map}
use Rattle.terrain.specs.Places.{IsAt}
use Rattle.terrain.specs.Reach.{LeadsTo, Path, IsReached}
use Rattle.terrain.specs.Reach.Path.{start, on}

module _ {A : Type 0} where
  -- what stands at a place after one element was replaced
  pub at_set : (xs : List A) (i j : ℕ) (y u : A) → IsAt (set xs i y) j u → ((j ≡ i) × (y ≡ u)) ⊎ ((j ≢ i) × IsAt xs j u)
  at_set [] i j y u e = cc
  at_set (x ∷ xs) zero zero y u e = inl (refl, cc)
  at_set (x ∷ xs) zero (suc j) y u e = inr (λ q. cc, e)
  at_set (x ∷ xs) (suc i) zero y u e = inr (λ q. cc, e)
  at_set (x ∷ xs) (suc i) (suc j) y u e = ⊎_elim (λ (p : (j ≡ i) × (y ≡ u)). inl (ap suc p.0, p.1)) (λ (p : (j ≢ i) × IsAt xs j u). inr (λ q. p.0 (let r : j ≡ i = omega (arith, q) in r), p.1)) (at_set xs i j y u e)

  pub set_here : (xs : List A) (i : ℕ) (x y : A) → IsAt xs i x → IsAt (set xs i y) i y
  set_here [] i x y e = cc
  set_here (z ∷ xs) zero x y e = refl
  set_here (z ∷ xs) (suc i) x y e = set_here xs i x y e

  pub set_else : (xs : List A) (i j : ℕ) (y u : A) → j ≢ i → IsAt xs j u → IsAt (set xs i y) j u
  set_else [] i j y u ne e = e
  set_else (x ∷ xs) zero zero y u ne e = absurd (ne refl)
  set_else (x ∷ xs) zero (suc j) y u ne e = e
  set_else (x ∷ xs) (suc i) zero y u ne e = e
  set_else (x ∷ xs) (suc i) (suc j) y u ne e = set_else xs i j y u (λ q. ne (ap suc q)) e

  -- what stands at a place after one element was put at the end
  pub at_snoc : (xs : List A) (j : ℕ) (y u : A) → IsAt (xs ++ y ∷ []) j u → IsAt xs j u ⊎ ((j ≡ length xs) × (y ≡ u))
  at_snoc [] zero y u e = inr (refl, cc)
  at_snoc [] (suc j) y u e = cc
  at_snoc (x ∷ xs) zero y u e = inl e
  at_snoc (x ∷ xs) (suc j) y u e = ⊎_elim (λ (p : IsAt xs j u). inl p) (λ (p : (j ≡ length xs) × (y ≡ u)). inr (ap suc p.0, p.1)) (at_snoc xs j y u e)

  pub snoc_left : (xs : List A) (j : ℕ) (y u : A) → IsAt xs j u → IsAt (xs ++ y ∷ []) j u
  snoc_left [] j y u e = cc
  snoc_left (x ∷ xs) zero y u e = e
  snoc_left (x ∷ xs) (suc j) y u e = snoc_left xs j y u e

  pub snoc_end : (xs : List A) (y : A) → IsAt (xs ++ y ∷ []) (length xs) y
  snoc_end [] y = refl
  snoc_end (x ∷ xs) y = snoc_end xs y

  pub at_within : (xs : List A) (j : ℕ) (u : A) → IsAt xs j u → j < length xs
  at_within [] j u e = cc
  at_within (x ∷ xs) zero u e = omega arith
  at_within (x ∷ xs) (suc j) u e = let h = at_within xs j u e in omega arith

  -- one element stands at a place
  pub at_one : (xs : List A) (j : ℕ) (u v : A) → IsAt xs j u → IsAt xs j v → u ≡ v
  at_one xs j u v a b = cc

  -- the element at a place of the list
  pub read : (xs : List A) (j : ℕ) → j < length xs → (u : A) × IsAt xs j u
  read [] j h = absurd (omega arith)
  read (x ∷ xs) zero h = (x, refl)
  read (x ∷ xs) (suc j) h = read xs j (omega arith)

module _ {A B : Type 0} (f : A → B) where
  pub at_map : (xs : List A) (i : ℕ) (x : A) → IsAt xs i x → IsAt (map f xs) i (f x)
  at_map xs i x at = slice_get-map f xs i ∙ ap (option_map f) at

  -- what stands in a list that was mapped comes of what stood there
  pub map_at : (xs : List A) (i : ℕ) (y : B) → IsAt (map f xs) i y → (x : A) × IsAt xs i x × (f x ≡ y)
  map_at xs i y at =
      let r = read xs i (let h = at_within (map f xs) i y at in let l = length-map xs f in omega arith) in
      (r.0, r.1, at_one (map f xs) i (f r.0) y (at_map xs i r.0 r.1) at)

module _ {L : Type 0} (Walls : List ℤ → ℕ → Type 0) (Leads : List ℤ → ℕ → List ℤ → L → Type 0) (root : List ℤ) where
  pub root_reached : IsReached Walls Leads root root
  root_reached = ∣ start ∣₁

  -- what is reached is closed under leads
  pub lead_reached : (k d : List ℤ) → IsReached Walls Leads root k → LeadsTo Walls Leads k d → IsReached Walls Leads root d
  lead_reached k d reached step = ∥∥₁_map reached (λ (p : Path (LeadsTo Walls Leads) root k). on p step)

  -- what is reached is in each set with the root that is closed under leads
  pub reached_least : (P : List ℤ → Type 0) → ((k : List ℤ) (a b : P k) → a ≡ b) → P root → ((k d : List ℤ) → P k → LeadsTo Walls Leads k d → P d) → (k : List ℤ) → IsReached Walls Leads root k → P k
  reached_least P once at_root closed k reached = ∥∥₁_elim reached (once k) (λ (p : Path (LeadsTo Walls Leads) root k). along p)
    where
      along : {d : List ℤ} → Path (LeadsTo Walls Leads) root d → P d
      along start = at_root
      along (on {k} {d} p step) = closed k d (along p) step

  -- reached keys are the terrain's own where the root is
  pub own_reached : (Own : List ℤ → Type 0) → ((k : List ℤ) (a b : Own k) → a ≡ b) → ((k : List ℤ) (n w : ℕ) (d : List ℤ) (g : L) → Own k → Walls k n → w < n → Leads k w d g → Own d) → Own root → (k : List ℤ) → IsReached Walls Leads root k → Own k
  own_reached Own once further own = reached_least Own once own (λ k d o s. further k s.walls s.wall d s.link o s.has s.within s.leads)
