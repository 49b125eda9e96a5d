-- Elements of a list, each once: there are no more of them than of a list that has them all.
use Rattle.std.proofs.Common.{◌≡◌, ◌∙◌, ℕ, ◌<◌, List, length, refl, sym, subst, arith, Option, Some, None}
use Rattle.std.specs.Prelude.{slice_get}
use Rattle.rings.proofs.Pigeonhole.{repeats}
use Rattle.terrain.specs.Places.{IsAt}
use Rattle.terrain.proofs.CallerLemmas.{at_within, at_one, read}

module _ {A : Type 0} (xs ys : List A) (once : (i j : ℕ) (x : A) → IsAt xs i x → IsAt xs j x → i ≡ j) (among : (i : ℕ) (x : A) → IsAt xs i x → (p : ℕ) × IsAt ys p x) where
  -- the place of an element in the other list
  place : (i : ℕ) (o : Option A) → slice_get xs i ≡ o → ℕ
  place i None e = 0
  place i (Some x) e = (among i x e).0

  other_place : ℕ → ℕ
  other_place i = place i (slice_get xs i) refl

  -- there it stands
  stands : (i : ℕ) → i < length xs → (x : A) × IsAt xs i x × IsAt ys (other_place i) x
  unfolding place other_place
  stands i under = at (slice_get xs i) refl
    where
      at : (o : Option A) (e : slice_get xs i ≡ o) → (x : A) × IsAt xs i x × IsAt ys (place i o e) x
      at None e = let there = read xs i under in absurd (none there.0 (sym e ∙ there.1))
        where
          none : (x : A) → None ≡ Some x → ⊥
          none x e = cc
      at (Some x) e = (x, e, (among i x e).1)

  pub no_more : ¬ (length ys < length xs)
  no_more more =
      let twice = repeats (length ys) other_place (λ i under. let s = stands i (omega (arith, under, more)) in at_within ys (other_place i) s.0 s.2) in
      let one = stands twice.0 (omega (arith, twice.2, twice.3, more)) in
      let two = stands twice.1 (omega (arith, twice.3, more)) in
      let same : one.0 ≡ two.0 = at_one ys (other_place twice.1) one.0 two.0 (subst (λ (p : ℕ). IsAt ys p one.0) twice.4 one.2) two.2 in
      let equal : twice.0 ≡ twice.1 = once twice.0 twice.1 two.0 (subst (λ (x : A). IsAt xs twice.0 x) same one.1) two.1 in
      omega (arith, equal, twice.2)
