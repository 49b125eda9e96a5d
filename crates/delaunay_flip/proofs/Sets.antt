-- Sets of numbers as words of 64 bits: a bit set, a bit cleared, and the least number.
use Rattle.std.proofs.Common.{◌≡◌, ◌≢◌, ◌↔◌, ℕ, ◌+◌, ◌*◌, ◌/◌, ◌%◌, ◌^◌, ◌<◌, ◌≤◌, List, length, slice_index, slice_set, bit_and, bit_or, sym, ◌∙◌, ap, subst, arith, inl, inr}
use Rattle.std.specs.Int.{w64, bit_at, bit_not, trailing_zeros}
use Rattle.std.proofs.lemmas.Bool.{cases_eq}
use Rattle.std.proofs.lemmas.List.{get_or-set_same, get_or-set_other, get_or_past}
use Rattle.std.proofs.lemmas.Nat.Bits.{bit_at-zero, bit_at_set_same, bit_at_set_other, bit_at_clear_same, bit_at_clear_other, bit_at-trailing_zeros}
use Rattle.delaunay_flip.specs.Flipping.{IsLeast}
use Rattle.delaunay_flip.specs.Words.{Holds}

-- the bit of h alone
abbrev bit_of : ℕ → ℕ
bit_of h = 1 * 2 ^ (h % 64) % 18446744073709551616

-- what one word's change means for the set
module _ (words : List ℕ) (h w : ℕ) where
  changed_here : h / 64 < length words → bit_at (slice_index (slice_set words (h / 64) w) (h / 64)) (h % 64) ≡ bit_at w (h % 64)
  changed_here inside = ap (λ x. bit_at x (h % 64)) (get_or-set_same words (h / 64) w 0 inside)

  changed_other : h / 64 < length words → ((i : ℕ) → i < 64 → i ≢ h % 64 → bit_at w i ≡ bit_at (slice_index words (h / 64)) i) → (k : ℕ) → k ≢ h
      → bit_at (slice_index (slice_set words (h / 64) w) (k / 64)) (k % 64) ≡ bit_at (slice_index words (k / 64)) (k % 64)
  changed_other inside same k other = elim (cases_eq (k / 64) (h / 64)) [
    | inl e ↦
        ap (λ j. bit_at (slice_index (slice_set words (h / 64) w) j) (k % 64)) e
        ∙ ap (λ x. bit_at x (k % 64)) (get_or-set_same words (h / 64) w 0 inside)
        ∙ same (k % 64) (omega arith) (λ f. other (omega arith))
        ∙ ap (λ j. bit_at (slice_index words j) (k % 64)) (sym e)
    | inr apart ↦ ap (λ x. bit_at x (k % 64)) (get_or-set_other words (h / 64) (k / 64) w 0 apart)
  ]

  changed_holds : h / 64 < length words → ((i : ℕ) → i < 64 → i ≢ h % 64 → bit_at w i ≡ bit_at (slice_index words (h / 64)) i) → (k : ℕ) → k ≢ h
      → Holds (slice_set words (h / 64) w) k ↔ Holds words k
  changed_holds inside same k other = let e = changed_other inside same k other in (λ p. sym e ∙ p, λ p. e ∙ p)

module _ (words : List ℕ) (h : ℕ) (inside : h / 64 < length words) where
  pub inserted : Holds (slice_set words (h / 64) (bit_or (slice_index words (h / 64)) (bit_of h))) h
  inserted =
      changed_here words h (bit_or (slice_index words (h / 64)) (bit_of h)) inside
      ∙ bit_at_set_same w64 (slice_index words (h / 64)) (h % 64) (omega arith)

  pub inserted_other : (k : ℕ) → k ≢ h → Holds (slice_set words (h / 64) (bit_or (slice_index words (h / 64)) (bit_of h))) k ↔ Holds words k
  inserted_other =
      changed_holds words h (bit_or (slice_index words (h / 64)) (bit_of h)) inside
      (λ i below other. bit_at_set_other w64 (slice_index words (h / 64)) (h % 64) (omega arith) i other)

  pub removed : ¬ (Holds (slice_set words (h / 64) (bit_and (slice_index words (h / 64)) (bit_not w64 (bit_of h)))) h)
  removed held =
      let e =
      sym held ∙ changed_here words h (bit_and (slice_index words (h / 64)) (bit_not w64 (bit_of h))) inside
      ∙ bit_at_clear_same w64 (slice_index words (h / 64)) (h % 64) (omega arith) in
      omega arith

  pub removed_other : (k : ℕ) → k ≢ h → Holds (slice_set words (h / 64) (bit_and (slice_index words (h / 64)) (bit_not w64 (bit_of h)))) k ↔ Holds words k
  removed_other =
      changed_holds words h (bit_and (slice_index words (h / 64)) (bit_not w64 (bit_of h))) inside
      (λ i below other. bit_at_clear_other w64 (slice_index words (h / 64)) (h % 64) (omega arith) i below other)

-- no number is held by a word without bits, nor by a word that isn't there
pub not_held_zero : (words : List ℕ) (k : ℕ) → slice_index words (k / 64) ≡ 0 → ¬ (Holds words k)
not_held_zero words k e held = let f = sym held ∙ ap (λ x. bit_at x (k % 64)) e ∙ bit_at-zero (k % 64) in omega arith

pub not_held_past : (words : List ℕ) (k : ℕ) → length words ≤ k / 64 → ¬ (Holds words k)
not_held_past words k past = not_held_zero words k (get_or_past words (k / 64) 0 past)

-- the lowest bit of the first word that has one
pub least_held : (words : List ℕ) (i : ℕ) → slice_index words i ≢ 0 → slice_index words i < 2 ^ 64 → ((k : ℕ) → k / 64 < i → ¬ (Holds words k))
    → IsLeast (Holds words) (64 * i + trailing_zeros w64 (slice_index words i))
least_held words i some fits before =
    let word = slice_index words i in
    let t = trailing_zeros w64 word in
    let lowest = bit_at-trailing_zeros w64 word (omega arith) fits in
    let below : t < 64 = lowest.0 in
    let quotient : (64 * i + t) / 64 ≡ i = omega arith in
    let rest : (64 * i + t) % 64 ≡ t = omega arith in (
      subst (λ j. bit_at (slice_index words j) ((64 * i + t) % 64) ≡ 1) (sym quotient) (subst (λ j. bit_at word j ≡ 1) (sym rest) lowest.1),
      λ k less held. elim (cases_eq (k / 64) i) [
        | inl e ↦
            let smaller : k % 64 < t = omega arith in
            let f = sym held ∙ ap (λ j. bit_at (slice_index words j) (k % 64)) e ∙ lowest.2 (k % 64) smaller in
            omega arith
        | inr apart ↦ before k (omega arith) held
      ],
    )
