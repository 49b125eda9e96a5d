-- The deques of all workers but one.
use Rattle.std.proofs.Common.{◌≡◌, ◌≢◌, ℕ, zero, suc, ◌+◌, ◌<◌, ◌≤◌, List, [], ◌∷◌, ◌++◌, length, map, set, take, refl, sym, ap, ◌∙◌, subst, arith, ⊎_elim}
use Rattle.std.proofs.lemmas.List.{length-map, map-append, take_all}
use Rattle.terrain.specs.Places.{IsAt}
use Rattle.terrain.proofs.CallerLemmas.{at_set, at_snoc, at_map, at_within}
use Rattle.wall_steal.specs.Deques.{without}

module _ {A : Type 0} where
  take_snoc : (xs : List A) (j : ℕ) (x : A) → IsAt xs j x → take (suc j) xs ≡ take j xs ++ x ∷ []
  take_snoc [] j x at = cc
  take_snoc (y ∷ xs) zero x at = let e : y ≡ x = cc in ap (λ (z : A). z ∷ []) e
  take_snoc (y ∷ xs) (suc j) x at = ap (λ (l : List A). y ∷ l) (take_snoc xs j x at)

  -- one element more, which isn't the one that is left out
  pub without_more : (xs : List A) (i j : ℕ) (x : A) → j ≢ i → IsAt xs j x → without i (take (suc j) xs) ≡ without i (take j xs) ++ x ∷ []
  without_more [] i j x ne at = cc
  without_more (y ∷ xs) zero zero x ne at = absurd (ne refl)
  without_more (y ∷ xs) zero (suc j) x ne at = take_snoc xs j x at
  without_more (y ∷ xs) (suc i) zero x ne at = let e : y ≡ x = cc in ap (λ (z : A). z ∷ []) e
  without_more (y ∷ xs) (suc i) (suc j) x ne at = ap (λ (l : List A). y ∷ l) (without_more xs i j x (λ q. ne (ap suc q)) at)

  -- the one that is left out
  pub without_same : (xs : List A) (i : ℕ) (x : A) → IsAt xs i x → without i (take (suc i) xs) ≡ without i (take i xs)
  without_same [] i x at = cc
  without_same (y ∷ xs) zero x at = refl
  without_same (y ∷ xs) (suc i) x at = ap (λ (l : List A). y ∷ l) (without_same xs i x at)

module _ {H D : Type 0} (own : H → D) (others : H → List D) where
  -- an element of the same deque takes a place
  pub own_set : (all : List H) (i : ℕ) (h h' : H) → IsAt all i h → own h' ≡ own h → map own (set all i h') ≡ map own all
  own_set [] i h h' at same = cc
  own_set (x ∷ all) zero h h' at same = let e : x ≡ h = cc in ap (λ (d : D). d ∷ map own all) (same ∙ ap own (sym e))
  own_set (x ∷ all) (suc i) h h' at same = ap (λ (l : List D). own x ∷ l) (own_set all i h h' at same)

  -- the workers below i know all others
  abbrev pub AreToldBelow : ℕ → List H → Type 0
  AreToldBelow i all = (k : ℕ) (h : H) → k < i → IsAt all k h → others h ≡ without k (map own all)

  pub told_more : (all : List H) (i : ℕ) (h h' : H) → IsAt all i h → own h' ≡ own h → others h' ≡ without i (map own all) → AreToldBelow i all → AreToldBelow (i + 1) (set all i h')
  told_more all i h h' at same now below k g less there =
      ⊎_elim
      (λ (e : (k ≡ i) × (h' ≡ g)). ap others (sym e.1) ∙ now ∙ ap (λ (l : List D). without i l) (sym (own_set all i h h' at same)) ∙ ap (λ (n : ℕ). without n (map own (set all i h'))) (sym e.0))
      (λ (e : (k ≢ i) × IsAt all k g). below k g (let ne = e.0 in omega arith) e.1 ∙ ap (λ (l : List D). without k l) (sym (own_set all i h h' at same)))
      (at_set all i k h' g there)

  -- once the workers below n are all, each knows all others
  pub told_all : (all : List H) (n : ℕ) → length all ≤ n → AreToldBelow n all → (k : ℕ) (h : H) → IsAt all k h → others h ≡ without k (map own all)
  told_all all n whole below k h at = below k h (let w = at_within all k h at in omega arith) at

module _ {H : Type 0} (P : H → Type 0) where
  -- what holds of each element holds where one more comes
  pub each_more : (all : List H) (h : H) → P h → ((k : ℕ) (g : H) → IsAt all k g → P g) → (k : ℕ) (g : H) → IsAt (all ++ h ∷ []) k g → P g
  each_more all h now each k g at =
      ⊎_elim
      (λ (e : IsAt all k g). each k g e)
      (λ (e : (k ≡ length all) × (h ≡ g)). subst P e.1 now)
      (at_snoc all k h g at)

  -- and where another takes the place of one
  pub each_set : (all : List H) (i : ℕ) (h : H) → P h → ((k : ℕ) (g : H) → IsAt all k g → P g) → (k : ℕ) (g : H) → IsAt (set all i h) k g → P g
  each_set all i h now each k g at =
      ⊎_elim
      (λ (e : (k ≡ i) × (h ≡ g)). subst P e.1 now)
      (λ (e : (k ≢ i) × IsAt all k g). each k g e.1)
      (at_set all i k h g at)

module _ {H O D : Type 0} (own : H → D) (behind : O → D) where
  -- the deque of the next worker is put behind those before it
  pub others_more : (all : List H) (i mine : ℕ) (h : H) (others : List O) (o : O) → IsAt all i h → i ≢ mine → behind o ≡ own h → map behind others ≡ without mine (take i (map own all)) → map behind (others ++ o ∷ []) ≡ without mine (take (i + 1) (map own all))
  others_more all i mine h others o at ne same now =
      let next : suc i ≡ i + 1 = omega arith in
      map-append behind others (o ∷ [])
      ∙ ap (λ (l : List D). l ++ behind o ∷ []) now
      ∙ ap (λ (d : D). without mine (take i (map own all)) ++ d ∷ []) same
      ∙ sym (without_more (map own all) mine i (own h) ne (at_map own all i h at))
      ∙ ap (λ (n : ℕ). without mine (take n (map own all))) next

  -- the worker's own deque is left out
  pub others_same : (all : List H) (i mine : ℕ) (h : H) (others : List O) → IsAt all i h → i ≡ mine → map behind others ≡ without mine (take i (map own all)) → map behind others ≡ without mine (take (i + 1) (map own all))
  others_same all i mine h others at same now =
      let next : suc i ≡ i + 1 = omega arith in
      now
      ∙ sym (subst (λ (n : ℕ). without n (take (suc i) (map own all)) ≡ without n (take i (map own all))) same (without_same (map own all) i (own h) (at_map own all i h at)))
      ∙ ap (λ (n : ℕ). without mine (take n (map own all))) next

  -- after the last worker all others are there
  pub others_whole : (all : List H) (n mine : ℕ) (others : List O) → n ≡ length all → map behind others ≡ without mine (take n (map own all)) → map behind others ≡ without mine (map own all)
  others_whole all n mine others whole now =
      let l = length-map all own in
      now ∙ ap (λ (ds : List D). without mine ds) (take_all n (map own all) (omega arith))
