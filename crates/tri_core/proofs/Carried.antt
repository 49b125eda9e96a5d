-- The six slots of a flip, and the links back from outside.
use Rattle.std.proofs.Common.{◌≡◌, ◌≢◌, ◌⊎◌, ℕ, ◌<◌, List, length, refl, sym, ◌∙◌, ap, subst, inl, inr}
use Rattle.std.proofs.lemmas.List.{get_or-set_same, get_or-set_other, length-set}
use Rattle.std.proofs.lemmas.Bool.{cases_eq}
use Rattle.plane.specs.declared.vec2.Vec2.{Vec2}
use Rattle.tri_core.specs.declared.half.Half.{Half}
use Rattle.tri_core.specs.HalfEdges.{half_at, twin_at, next_of, previous_of, no_half}
use Rattle.tri_core.specs.Flips.{number_after, IsOuter, AreApart}
use Rattle.tri_core.specs.Slots.{HasPairs, IsCarried, linked_back}
use Rattle.tri_core.proofs.Moves.{cycled-first, cycled-second, cycled-third, cycled-fourth, number_same, outer_or_not, number_injective, number_within}
use Rattle.tri_core.proofs.Stores.{AreSix, six, six_stores, six_stores-length, six_stores-h, six_stores-g, six_stores-n, six_stores-p, six_stores-q, six_stores-r, six_stores-other}

-- a half-edge in its slot: its vector is kept, and its twin carried along
pub record IsSide (halves : List Half) (h g k : ℕ) (half : Half) : Type 0 where
  pub vec : half.vec ≡ (half_at halves k).vec
  pub twin : half.twin ≡ number_after h g (twin_at halves k)

-- the same, where the number is given by another name
pub side_from : (halves : List Half) (h g k place : ℕ) (half : Half) → place ≡ k → half.vec ≡ (half_at halves place).vec → half.twin ≡ number_after h g (twin_at halves place) → IsSide halves h g k half
side_from halves h g k place half e vec twin = subst (λ (m : ℕ). IsSide halves h g m half) e (record { vec = vec; twin = twin })

module _ (halves : List Half) (h g : ℕ) (apart : AreApart halves h g) (twin : twin_at halves h ≡ g) (back : twin_at halves g ≡ h)
    (x y a b c d : Half) (x_twin : x.twin ≡ g) (y_twin : y.twin ≡ h)
    (first : IsSide halves h g (next_of h) a) (second : IsSide halves h g (previous_of h) b) (third : IsSide halves h g (next_of g) c) (fourth : IsSide halves h g (previous_of g) d) where
  abbrev n : ℕ
  n = next_of h

  abbrev p : ℕ
  p = previous_of h

  abbrev q : ℕ
  q = next_of g

  abbrev r : ℕ
  r = previous_of g

  s : AreSix (length halves) h g n p q r
  s = six halves h g apart

  abbrev later : List Half
  later = six_stores halves h g n p q r x y a b c d

  -- an outer side stands in its slot
  outer_slot : (k : ℕ) → IsOuter h g k → IsSide halves h g k (half_at later (number_after h g k))
  outer_slot k o = elim o [
    | inl e ↦ rw (cycled-first n p q r k e, six_stores-p halves h g n p q r x y a b c d s) (subst (λ (m : ℕ). IsSide halves h g m a) (sym e) first)
    | inr o ↦ elim o [
      | inl e ↦ rw (cycled-second n p q r k s.four e, six_stores-q halves h g n p q r x y a b c d s) (subst (λ (m : ℕ). IsSide halves h g m b) (sym e) second)
      | inr o ↦ elim o [
        | inl e ↦ rw (cycled-third n p q r k s.four e, six_stores-r halves h g n p q r x y a b c d s) (subst (λ (m : ℕ). IsSide halves h g m c) (sym e) third)
        | inr e ↦ rw (cycled-fourth n p q r k s.four e, six_stores-n halves h g n p q r x y a b c d s) (subst (λ (m : ℕ). IsSide halves h g m d) (sym e) fourth)
      ]
    ]
  ]

  -- a half-edge outside the two triangles is untouched
  other_slot : (k : ℕ) → k ≢ h → k ≢ g → ¬ (IsOuter h g k) → half_at later (number_after h g k) ≡ half_at halves k
  other_slot k eh eg none =
      rw (number_same h g k none)
      (six_stores-other halves h g n p q r x y a b c d s k eh eg (λ e. none (inl e)) (λ e. none (inr (inl e))) (λ e. none (inr (inr (inl e)))) (λ e. none (inr (inr (inr e)))))

  -- the six slots carry all but the twins of outer sides
  pub carried-six : IsCarried halves h g x.vec y.vec (IsOuter h g) later
  carried-six = record {
    count = six_stores-length halves h g n p q r x y a b c d s;
    diagonal = ap (λ (half : Half). half.vec) (six_stores-h halves h g n p q r x y a b c d s);
    opposite = ap (λ (half : Half). half.vec) (six_stores-g halves h g n p q r x y a b c d s);
    vectors = λ k inside eh eg. elim (outer_or_not h g k) [
      | inl o ↦ (outer_slot k o).vec
      | inr none ↦ ap (λ (half : Half). half.vec) (other_slot k eh eg none)
    ];
    outer = λ k inside o. (outer_slot k o).twin;
    others = λ k inside left. elim (outer_or_not h g k) [
      | inl o ↦ (outer_slot k o).twin
      | inr none ↦ rw (number_same h g k none, number_same h g (twin_at halves k) left) (untouched k none)
    ];
  }
    where
      untouched : (k : ℕ) → ¬ (IsOuter h g k) → twin_at later k ≡ twin_at halves k
      untouched k none = elim (cases_eq k h) [
        | inl e ↦ ap (twin_at later) e ∙ ap (λ (half : Half). half.twin) (six_stores-h halves h g n p q r x y a b c d s) ∙ x_twin ∙ sym twin ∙ ap (twin_at halves) (sym e)
        | inr eh ↦ elim (cases_eq k g) [
          | inl e ↦ ap (twin_at later) e ∙ ap (λ (half : Half). half.twin) (six_stores-g halves h g n p q r x y a b c d s) ∙ y_twin ∙ sym back ∙ ap (twin_at halves) (sym e)
          | inr eg ↦ ap (λ (half : Half). half.twin) (subst (λ (m : ℕ). half_at later m ≡ half_at halves k) (number_same h g k none) (other_slot k eh eg none))
        ]
      ]

-- the twin of an outer side stands in the side's slot
slot-twin : (halves : List Half) (h g : ℕ) (u v : Vec2) (IsLeft : ℕ → Type 0) (later : List Half) (side slot : ℕ)
    → side < length halves → IsOuter h g side → number_after h g side ≡ slot → IsCarried halves h g u v IsLeft later
    → twin_at later slot ≡ number_after h g (twin_at halves side)
slot-twin halves h g u v IsLeft later side slot inside outer is old = subst (λ (m : ℕ). twin_at later m ≡ number_after h g (twin_at halves side)) is (old.outer side inside outer)

pub slot-within : (halves : List Half) (h g : ℕ) (u v : Vec2) (IsLeft : ℕ → Type 0) (later : List Half) (side slot : ℕ)
    → AreApart halves h g → HasPairs halves → side < length halves → IsOuter h g side → number_after h g side ≡ slot → IsCarried halves h g u v IsLeft later
    → twin_at later slot < length later
slot-within halves h g u v IsLeft later side slot apart pairs inside outer is old =
    subst (λ (m : ℕ). m < length later) (sym (slot-twin halves h g u v IsLeft later side slot inside outer is old))
    (subst (λ (l : ℕ). number_after h g (twin_at halves side) < l) (sym old.count) (number_within h g (twin_at halves side) (length halves) apart.count apart.first apart.second (pairs.inside side inside)))

-- a link back from the slot of an outer side carries the twin of its twin
pub carried-link : (halves : List Half) (h g : ℕ) (u v : Vec2) (IsLeft IsLeftThen : ℕ → Type 0) (later : List Half) (side slot : ℕ)
    → AreApart halves h g → HasPairs halves → side < length halves → IsOuter h g side → number_after h g side ≡ slot
    → ((k : ℕ) → ¬ (IsLeftThen k) → ¬ (IsLeft k) ⊎ (k ≡ side))
    → IsCarried halves h g u v IsLeft later
    → IsCarried halves h g u v IsLeftThen (linked_back later slot)
carried-link halves h g u v IsLeft IsLeftThen later side slot apart pairs inside outer is left old =
    let place : ℕ = twin_at later slot in
    let linked : Half = record { vec = (half_at later place).vec; twin = slot } in
    let at = slot-twin halves h g u v IsLeft later side slot inside outer is old in
    let within = slot-within halves h g u v IsLeft later side slot apart pairs inside outer is old in
    let vec : (m : ℕ) → (half_at (linked_back later slot) m).vec ≡ (half_at later m).vec = λ m. elim (cases_eq m place) [
      | inl e ↦ rw (e, get_or-set_same later place linked no_half within) refl
      | inr ne ↦ rw (get_or-set_other later place m linked no_half ne) refl
    ] in
    let other : (k : ℕ) → ¬ (twin_at halves k ≡ side) → k < length halves → twin_at (linked_back later slot) (number_after h g k) ≡ twin_at later (number_after h g k) =
    λ k ne below. ap (λ (half : Half). half.twin) (get_or-set_other later place (number_after h g k) linked no_half
    (λ e. ne (ap (twin_at halves) (number_injective h g k (twin_at halves side) apart.apart (e ∙ at)) ∙ pairs.back side inside))) in
    let own : (k : ℕ) → twin_at halves k ≡ side → k < length halves → twin_at (linked_back later slot) (number_after h g k) ≡ number_after h g (twin_at halves k) =
    λ k e below. ap (twin_at (linked_back later slot)) (ap (number_after h g) (sym (pairs.back k below) ∙ ap (twin_at halves) e) ∙ sym at)
    ∙ ap (λ (half : Half). half.twin) (get_or-set_same later place linked no_half within) ∙ sym is ∙ ap (number_after h g) (sym e) in
    record {
      count = length-set later place linked ∙ old.count;
      diagonal = vec h ∙ old.diagonal;
      opposite = vec g ∙ old.opposite;
      vectors = λ k below eh eg. vec (number_after h g k) ∙ old.vectors k below eh eg;
      outer = λ k below o. elim (cases_eq (twin_at halves k) side) [ inl e ↦ own k e below | inr ne ↦ other k ne below ∙ old.outer k below o ];
      others = λ k below none. elim (cases_eq (twin_at halves k) side) [
        | inl e ↦ own k e below
        | inr ne ↦ elim (left (twin_at halves k) none) [ inl free ↦ other k ne below ∙ old.others k below free | inr e ↦ absurd (ne e) ]
      ];
    }
