-- From the ranks of numbers to the places of keys.
use Rattle.std.proofs.Common.{◌≡◌, ◌≢◌, ℕ, ◌+◌, ◌<◌, List, length, map, set, Some, sym, ap, ◌∙◌, subst, arith}
use Rattle.std.specs.Prelude.{ℤ}
use Rattle.std.specs.List.Sorted.{IsPermutation}
use Rattle.std.proofs.lemmas.List.Sorted.{length_permutation}
use mathlib.Core.Logic.{dite}
use native.Mathlib.Decide.{ℕ_discrete}
use Rattle.terrain.specs.Places.{IsAt}
use Rattle.terrain.proofs.CallerLemmas.{at_within, at_one, read, at_map, map_at, set_here, set_else}
use Rattle.explore_shared.specs.Ranks.{Finds}
use Rattle.explore_shared.proofs.Apart.{AreApart, still_there, was_there, permuted_apart}

module _ {A : Type 0} (number : A → ℕ) where
  -- the records are numbered by their places
  abbrev pub IsNumbered : List A → Type 0
  IsNumbered xs = (i : ℕ) (x : A) → IsAt xs i x → number x ≡ i

  pub numbered_apart : (xs : List A) → IsNumbered xs → AreApart number xs
  numbered_apart xs numbered i j x y at at' same = sym (numbered i x at) ∙ same ∙ numbered j y at'

  -- each number is a place, in whichever order
  pub numbered_within : (before after : List A) → IsPermutation before after → IsNumbered before → (i : ℕ) (x : A) → IsAt after i x → number x < length after
  numbered_within before after same numbered i x at =
      let m = was_there before after i x same at in
      let e = numbered m.0 x m.1 in
      let h = at_within before m.0 x m.1 in
      let l = length_permutation before after same in
      omega arith

  -- for the number of each of the first i there is the place of one with that number
  abbrev pub AreRankedBelow : List A → List ℕ → ℕ → Type 0
  AreRankedBelow all ranks i = (j : ℕ) (x : A) → j < i → IsAt all j x → (m : ℕ) × (y : A) × IsAt ranks (number x) m × IsAt all m y × (number y ≡ number x)

  -- one rank more is written
  pub ranked_on : (all : List A) (ranks : List ℕ) (i n : ℕ) (x : A) → IsAt all i x → number x ≡ n → n < length ranks → AreRankedBelow all ranks i → AreRankedBelow all (set ranks n i) (i + 1)
  ranked_on all ranks i n x at is within ranked j y less there = dite (ℕ_discrete (number y) n)
      (λ (e : number y ≡ n). let old = read ranks n within in (i, x, subst (λ (m : ℕ). IsAt (set ranks n i) m i) (sym e) (set_here ranks n old.0 i old.1), at, is ∙ sym e))
      (λ (ne : number y ≢ n). let r = ranked j y (before j y less there ne) there in (r.0, r.1, set_else ranks n (number y) i r.0 ne r.2, r.3, r.4))
    where
      before : (j : ℕ) (y : A) → j < i + 1 → IsAt all j y → number y ≢ n → j < i
      before j y less there ne = dite (ℕ_discrete j i)
          (λ (e : j ≡ i). absurd (ne (ap number (at_one all i y x (subst (λ (m : ℕ). IsAt all m y) e there) at) ∙ is)))
          (λ (other : j ≢ i). omega arith)

module _ {A : Type 0} (number : A → ℕ) (key : A → List ℤ) where
  pub finds : (before after : List A) (logs : List (List (List ℤ))) (starts ranks : List ℕ) → IsPermutation before after → IsNumbered number before → ((i : ℕ) (x : A) → IsAt after i x → (j : ℕ) × (y : A) × IsAt ranks (number x) j × IsAt after j y × (number y ≡ number x)) → length starts ≡ length logs → ((q start p : ℕ) (keys : List (List ℤ)) (k : List ℤ) → IsAt starts q start → IsAt logs q keys → IsAt keys p k → IsAt (map key before) (start + p) k) → Finds logs starts ranks (map key after)
  finds before after logs starts ranks same numbered ranked many numbers q p log k at there =
      let s = read starts q (let w = at_within logs q log at in omega arith) in
      let x = map_at key before (s.0 + p) k (numbers q s.0 p log k s.1 at there) in
      let is : number x.0 ≡ s.0 + p = numbered (s.0 + p) x.0 x.1 in
      let a = still_there before after (s.0 + p) x.0 same x.1 in
      let r = ranked a.0 x.0 a.1 in
      let place : r.0 ≡ a.0 = permuted_apart number before after same (numbered_apart number before numbered) r.0 a.0 r.1 x.0 r.3 a.1 r.4 in
      (s.0, r.0, s.1, subst (λ (m : ℕ). IsAt ranks m r.0) is r.2, subst (λ (m : ℕ). IsAt (map key after) m k) (sym place) (at_map key after a.0 x.0 a.1 ∙ ap Some x.2))
