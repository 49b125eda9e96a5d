-- Where the parts of a list fall that is split in two ways.
use Rattle.std.proofs.Common.{◌≡◌, List, [], ◌∷◌, ◌++◌, sym, ap, ◌∙◌, refl}
use Rattle.std.specs.Prelude.{◌⊎◌}
use Rattle.std.specs.List.{AllByRecursion}
use mathlib.Core.Logic.{inl, inr}

module _ {X : Type 0} where
  -- the first element of a list, or x where it is empty
  abbrev first_or : X → List X → X
  first_or x [] = x
  first_or x (y ∷ _) = y

  -- a list without its first element
  abbrev without_first : List X → List X
  without_first [] = []
  without_first (_ ∷ ys) = ys

  -- equal lists begin with equal elements
  pub same_first : (x y : X) (xs ys : List X) → x ∷ xs ≡ y ∷ ys → x ≡ y
  same_first x y xs ys e = ap (first_or x) e

  -- and go on equally
  pub same_rest : (x y : X) (xs ys : List X) → x ∷ xs ≡ y ∷ ys → xs ≡ ys
  same_rest x y xs ys e = ap without_first e

  -- the first part of one split reaches beyond the first part of the other
  abbrev pub Beyond : List X → List X → List X → List X → Type 0
  Beyond p q r s = (m : List X) × (r ≡ p ++ m) × (q ≡ m ++ s)

  -- of two splits of a list one reaches at least as far as the other
  pub meet : (p q r s : List X) → p ++ q ≡ r ++ s → Beyond p q r s ⊎ Beyond r s p q
  meet [] q r s e = inl (r, refl, e)
  meet (x ∷ p) q [] s e = inr (x ∷ p, refl, sym e)
  meet (x ∷ p) q (y ∷ r) s e =
      elim (meet p q r s (same_rest x y (p ++ q) (r ++ s) e)) [
        | inl h ↦ inl (h.0, ap (λ z. z ∷ r) (sym (same_first x y (p ++ q) (r ++ s) e)) ∙ ap (λ z. x ∷ z) h.1, h.2)
        | inr h ↦ inr (h.0, ap (λ z. z ∷ p) (same_first x y (p ++ q) (r ++ s) e) ∙ ap (λ z. y ∷ z) h.1, h.2)
      ]

  -- an element stands in the first part of a split
  abbrev pub InFirst : List X → X → List X → List X → List X → Type 0
  InFirst p w q r s = (m : List X) × (r ≡ p ++ (w ∷ m)) × (q ≡ m ++ s)

  -- or in the second
  abbrev pub InSecond : List X → X → List X → List X → List X → Type 0
  InSecond p w q r s = (m : List X) × (p ≡ r ++ m) × (s ≡ m ++ (w ∷ q))

  -- in which part of a split an element stands
  pub place : (p : List X) (w : X) (q r s : List X) → p ++ (w ∷ q) ≡ r ++ s → InFirst p w q r s ⊎ InSecond p w q r s
  place p w q [] s e = inr (p, refl, sym e)
  place [] w q (y ∷ r) s e =
      inl (r, ap (λ z. z ∷ r) (sym (same_first w y q (r ++ s) e)), same_rest w y q (r ++ s) e)
  place (x ∷ p) w q (y ∷ r) s e =
      elim (place p w q r s (same_rest x y (p ++ (w ∷ q)) (r ++ s) e)) [
        | inl h ↦ inl (h.0, ap (λ z. z ∷ r) (sym (same_first x y (p ++ (w ∷ q)) (r ++ s) e)) ∙ ap (λ z. x ∷ z) h.1, h.2)
        | inr h ↦ inr (h.0, ap (λ z. z ∷ p) (same_first x y (p ++ (w ∷ q)) (r ++ s) e) ∙ ap (λ z. y ∷ z) h.1, h.2)
      ]

  -- ---- a fact of all elements, and the parts of a list
  module _ (F : X → Type 0) where
    pub all_both : (xs ys : List X) → AllByRecursion F xs → AllByRecursion F ys → AllByRecursion F (xs ++ ys)
    all_both [] ys h k = k
    all_both (x ∷ xs) ys h k = (h.0, all_both xs ys h.1 k)

    pub all_first : (xs ys : List X) → AllByRecursion F (xs ++ ys) → AllByRecursion F xs
    all_first [] ys h = tt
    all_first (x ∷ xs) ys h = (h.0, all_first xs ys h.1)

    pub all_second : (xs ys : List X) → AllByRecursion F (xs ++ ys) → AllByRecursion F ys
    all_second [] ys h = h
    all_second (x ∷ xs) ys h = all_second xs ys h.1
