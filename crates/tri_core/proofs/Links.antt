-- The four links back from outside, one after the other.
use Rattle.std.proofs.Common.{◌≡◌, ◌⊎◌, ℕ, ◌<◌, List, length, refl, sym, ◌∙◌, inl, inr}
use Rattle.std.proofs.lemmas.Bool.{cases_eq}
use Rattle.plane.specs.declared.vec2.Vec2.{Vec2}
use Rattle.tri_core.specs.declared.half.Half.{Half}
use Rattle.tri_core.specs.HalfEdges.{twin_at, next_of, previous_of}
use Rattle.tri_core.specs.Flips.{IsOuter, AreApart}
use Rattle.tri_core.specs.Slots.{HasPairs, IsCarried, linked_back}
use Rattle.tri_core.proofs.Moves.{cycled-first, cycled-second, cycled-third, cycled-fourth}
use Rattle.tri_core.proofs.Stores.{AreSix, six}
use Rattle.tri_core.proofs.Carried.{slot-within, carried-link}

-- with one side less
less_one : (Rest : Type 0) (k side : ℕ) → ¬ Rest → ¬ ((k ≡ side) ⊎ Rest) ⊎ (k ≡ side)
less_one Rest k side none = elim (cases_eq k side) [ inl e ↦ inr e | inr ne ↦ inl (λ o. elim o [ inl e ↦ ne e | inr rest ↦ none rest ]) ]

less_last : (k side : ℕ) → ¬ (k ≡ side) ⊎ (k ≡ side)
less_last k side = elim (cases_eq k side) [ inl e ↦ inr e | inr ne ↦ inl ne ]

-- the sides that are left after each of the four links
abbrev pub LeftOne : ℕ → ℕ → ℕ → Type 0
LeftOne h g k = (k ≡ previous_of h) ⊎ (k ≡ next_of g) ⊎ (k ≡ previous_of g)

abbrev pub LeftTwo : ℕ → ℕ → Type 0
LeftTwo g k = (k ≡ next_of g) ⊎ (k ≡ previous_of g)

abbrev pub LeftThree : ℕ → ℕ → Type 0
LeftThree g k = k ≡ previous_of g

module _ (halves : List Half) (h g : ℕ) (u v : Vec2) (apart : AreApart halves h g) (pairs : HasPairs halves) (later : List Half) (slot : ℕ) where
  abbrev n : ℕ
  n = next_of h

  abbrev p : ℕ
  p = previous_of h

  abbrev q : ℕ
  q = next_of g

  abbrev r : ℕ
  r = previous_of g

  s : AreSix (length halves) h g n p q r
  s = six halves h g apart

  pub first-within : slot ≡ p → IsCarried halves h g u v (IsOuter h g) later → twin_at later slot < length later
  first-within e old = slot-within halves h g u v (IsOuter h g) later n slot apart pairs s.n_in (inl refl) (cycled-first n p q r n refl ∙ sym e) old

  pub first-link : (then : List Half) → slot ≡ p → then ≡ linked_back later slot → IsCarried halves h g u v (IsOuter h g) later → IsCarried halves h g u v (LeftOne h g) then
  first-link then e is old =
      rw is (carried-link halves h g u v (IsOuter h g) (LeftOne h g) later n slot apart pairs s.n_in (inl refl) (cycled-first n p q r n refl ∙ sym e) (λ k none. less_one (LeftOne h g k) k n none) old)

  pub second-within : slot ≡ q → IsCarried halves h g u v (LeftOne h g) later → twin_at later slot < length later
  second-within e old = slot-within halves h g u v (LeftOne h g) later p slot apart pairs s.p_in (inr (inl refl)) (cycled-second n p q r p s.four refl ∙ sym e) old

  pub second-link : (then : List Half) → slot ≡ q → then ≡ linked_back later slot → IsCarried halves h g u v (LeftOne h g) later → IsCarried halves h g u v (LeftTwo g) then
  second-link then e is old =
      rw is (carried-link halves h g u v (LeftOne h g) (LeftTwo g) later p slot apart pairs s.p_in (inr (inl refl)) (cycled-second n p q r p s.four refl ∙ sym e) (λ k none. less_one (LeftTwo g k) k p none) old)

  pub third-within : slot ≡ r → IsCarried halves h g u v (LeftTwo g) later → twin_at later slot < length later
  third-within e old = slot-within halves h g u v (LeftTwo g) later q slot apart pairs s.q_in (inr (inr (inl refl))) (cycled-third n p q r q s.four refl ∙ sym e) old

  pub third-link : (then : List Half) → slot ≡ r → then ≡ linked_back later slot → IsCarried halves h g u v (LeftTwo g) later → IsCarried halves h g u v (LeftThree g) then
  third-link then e is old =
      rw is (carried-link halves h g u v (LeftTwo g) (LeftThree g) later q slot apart pairs s.q_in (inr (inr (inl refl))) (cycled-third n p q r q s.four refl ∙ sym e) (λ k none. less_one (LeftThree g k) k q none) old)

  pub fourth-within : slot ≡ n → IsCarried halves h g u v (LeftThree g) later → twin_at later slot < length later
  fourth-within e old = slot-within halves h g u v (LeftThree g) later r slot apart pairs s.r_in (inr (inr (inr refl))) (cycled-fourth n p q r r s.four refl ∙ sym e) old

  pub fourth-link : (then : List Half) → slot ≡ n → then ≡ linked_back later slot → IsCarried halves h g u v (LeftThree g) later → IsCarried halves h g u v (λ k. ⊥) then
  fourth-link then e is old =
      rw is (carried-link halves h g u v (LeftThree g) (λ k. ⊥) later r slot apart pairs s.r_in (inr (inr (inr refl))) (cycled-fourth n p q r r s.four refl ∙ sym e) (λ k none. less_last k r) old)
