-- Two ascending lists with the same elements are equal, and an ascending list has each once.
use Rattle.std.proofs.Common.{◌≡◌, ◌∙◌, ℕ, zero, suc, ◌<◌, inl, inr, List, [], ◌∷◌, refl, ap, ap₂, sym, subst, arith, Some}
use Rattle.std.specs.declared.cmp.Ordering.{Ordering}
use Rattle.std.specs.declared.cmp.Ordering.TheVariants.{Less, Greater}
use Rattle.std.specs.Ordering.{ordering_reverse}
use Rattle.std.specs.Cmp.{IsTotalOrder}
use Rattle.std.proofs.lemmas.Bool.{cases_lt}
use Rattle.terrain.specs.Places.{IsAt}

module _ {A : Type 0} (order : A → A → Ordering) (total : IsTotalOrder order) where
  -- each element is less than those behind it
  abbrev Ascends : List A → Type 0
  Ascends xs = (i j : ℕ) (x y : A) → i < j → IsAt xs i x → IsAt xs j y → order x y ≡ Less

  -- each element is one of the other list
  abbrev IsWithin : List A → List A → Type 0
  IsWithin xs ys = (i : ℕ) (x : A) → IsAt xs i x → (j : ℕ) × IsAt ys j x

  -- of two elements not both are less than the other
  pub not_both : (x y : A) → order x y ≡ Less → order y x ≡ Less → ⊥
  not_both x y less more = apart (sym less ∙ total.antisymm x y ∙ ap ordering_reverse more)
    where
      apart : Less ≡ Greater → ⊥
      apart e = cc

  the_same : (x y : A) → Some x ≡ Some y → x ≡ y
  the_same x y e = cc

  tail_ascends : (x : A) (xs : List A) → Ascends (x ∷ xs) → Ascends xs
  tail_ascends x xs up i j y z less here there = up (suc i) (suc j) y z (omega (arith, less)) here there

  -- the first elements are equal
  same_first : (x y : A) (xs ys : List A) → Ascends (x ∷ xs) → Ascends (y ∷ ys) → (i j : ℕ) → IsAt (x ∷ xs) i y → IsAt (y ∷ ys) j x → x ≡ y
  same_first x y xs ys up also zero j here there = the_same x y here
  same_first x y xs ys up also (suc i) zero here there = sym (the_same y x there)
  same_first x y xs ys up also (suc i) (suc j) here there =
      absurd (not_both x y (up 0 (suc i) x y (omega arith) refl here) (also 0 (suc j) y x (omega arith) refl there))

  -- what is behind the first of the one is behind the first of the other
  tail_within : (x y : A) (xs ys : List A) → Ascends (x ∷ xs) → x ≡ y → IsWithin (x ∷ xs) (y ∷ ys) → IsWithin xs ys
  tail_within x y xs ys up same within i z here = at (within (suc i) z here)
    where
      at : (j : ℕ) × IsAt (y ∷ ys) j z → (j : ℕ) × IsAt ys j z
      at (zero, there) =
          let is : x ≡ z = same ∙ the_same y z there in
          let less : order x z ≡ Less = up 0 (suc i) x z (omega arith) refl here in
          absurd (not_both x x (subst (λ (w : A). order x w ≡ Less) (sym is) less) (subst (λ (w : A). order x w ≡ Less) (sym is) less))
      at (suc j, there) = (j, there)

  pub one_list : (xs ys : List A) → Ascends xs → Ascends ys → IsWithin xs ys → IsWithin ys xs → xs ≡ ys
  one_list [] [] up also within back = refl
  one_list [] (y ∷ ys) up also within back = none (back 0 y refl)
    where
      none : (j : ℕ) × IsAt [] j y → [] ≡ y ∷ ys
      none (j, e) = absurd (cc)
  one_list (x ∷ xs) [] up also within back = none (within 0 x refl)
    where
      none : (j : ℕ) × IsAt [] j x → x ∷ xs ≡ []
      none (j, e) = absurd (cc)
  one_list (x ∷ xs) (y ∷ ys) up also within back =
      let same : x ≡ y = same_first x y xs ys up also (back 0 y refl).0 (within 0 x refl).0 (back 0 y refl).1 (within 0 x refl).1 in
      ap₂ (λ (z : A) (zs : List A). z ∷ zs) same
      (one_list xs ys (tail_ascends x xs up) (tail_ascends y ys also) (tail_within x y xs ys up same within) (tail_within y x ys xs also (sym same) back))

  -- an element stands at one place
  pub one_place : (xs : List A) → Ascends xs → (i j : ℕ) (x : A) → IsAt xs i x → IsAt xs j x → i ≡ j
  one_place xs up i j x here there = elim (cases_lt i j) [
    | inl less ↦ absurd (not_both x x (up i j x x less here there) (up i j x x less here there))
    | inr least ↦ elim (cases_lt j i) [
      | inl more ↦ absurd (not_both x x (up j i x x more there here) (up j i x x more there here))
      | inr most ↦ omega (arith, least, most)
    ]
  ]
