-- Places of sides and corners.
use Rattle.std.proofs.Common.{◌≡◌, ◌↔◌, ℕ, zero, suc, ◌+◌, ◌%◌, ◌<◌, List, [], ◌∷◌, Bool, true, false, length, drop, refl, sym, ap, ◌∙◌, arith, IsTrue}
use mathlib.Core.Path.{subst₂}
use Rattle.std.proofs.Math.Nat.{mod-eq_of_lt, mod_self}
use Rattle.std.proofs.lemmas.List.{length-map}
use Rattle.std.proofs.lemmas.Bool.{both_ways}
use Rattle.quad_field.specs.Quads.{quad_ops, IsPositive}
use Rattle.quad_field.specs.declared.quad.Quad.{Quad}
use Rattle.plane.specs.Vectors.{Vector, vector, vector_sum, det}
use Rattle.plane.specs.declared.vec2.Vec2.{Vec2}
use Rattle.quad_field.specs.declared.quad.Sign.TheVariants.{Plus, Zero, Minus}
use Rattle.gluing.specs.Bounds.{IsCornerProper}
use Rattle.gluing.specs.Polygons.{no_vector, side_at, side_after, corner, sum_of, vectors, zero_of, PointAlike, Rises}
use Rattle.plane.specs.Halves.{IsUpper}

-- as many vectors as sides
pub length-vectors : (sides : List Vec2) → length (vectors sides) ≡ length sides
length-vectors sides = length-map sides vector

-- behind the last place stands the first
pub next_place_last : (sides : List Vec2) (i : ℕ) → i + 1 ≡ length sides → (i + 1) % length (vectors sides) ≡ 0
next_place_last sides i e = ap (λ (n : ℕ). n % length (vectors sides)) (e ∙ sym (length-vectors sides)) ∙ mod_self (length (vectors sides))

-- behind another the next
pub next_place_inner : (sides : List Vec2) (i : ℕ) → i + 1 < length sides → (i + 1) % length (vectors sides) ≡ i + 1
next_place_inner sides i h = mod-eq_of_lt (omega (arith, length-vectors sides))

-- the sum of the sides from a place on
pub sum_from : (d : ℕ) (sides : List (Vector Quad)) (i : ℕ) → i < length sides → sum_of d (drop i sides) ≡ vector_sum (quad_ops d) (side_at d sides i) (sum_of d (drop (suc i) sides))
sum_from d [] i h = absurd (omega arith)
sum_from d (v ∷ sides) zero h = refl
sum_from d (v ∷ sides) (suc i) h = sum_from d sides i (omega arith)

module _ (A : Type 0) (d : ℕ) (sides : List (Vector Quad)) (i : ℕ) (u v : Vector Quad) (e : side_at d sides i ≡ u) (f : side_after d sides i ≡ v) where
  -- what holds where two sides meet, by their values
  at_corner : (P : Vector Quad → Vector Quad → Type 0) → P u v → P (side_at d sides i) (side_after d sides i)
  at_corner P h = subst₂ P (sym e) (sym f) h

  pub right_at : (A ↔ IsPositive d ((quad_ops d).neg (det (quad_ops d) u v))) → (A ↔ IsPositive d ((quad_ops d).neg (corner d sides i)))
  right_at h = at_corner (λ x y. A ↔ IsPositive d ((quad_ops d).neg (det (quad_ops d) x y))) h

  pub flat_at : (A ↔ (det (quad_ops d) u v ≡ zero_of d)) → (A ↔ (corner d sides i ≡ zero_of d))
  flat_at h = at_corner (λ x y. A ↔ (det (quad_ops d) x y ≡ zero_of d)) h

  pub alike_at : (A ↔ PointAlike d u v) → (A ↔ PointAlike d (side_at d sides i) (side_after d sides i))
  alike_at h = at_corner (λ x y. A ↔ PointAlike d x y) h

  pub rises_at : ¬ (IsUpper d u) → (A ↔ IsUpper d v) → (A ↔ Rises d sides i)
  rises_at low h = at_corner (λ x y. A ↔ (¬ (IsUpper d x) × IsUpper d y)) ((λ a. (low, h.0 a)), (λ r. h.1 r.1))

  pub stays_at : IsUpper d u → ¬ A → (A ↔ Rises d sides i)
  stays_at high none = at_corner (λ x y. A ↔ (¬ (IsUpper d x) × IsUpper d y)) ((λ a. absurd (none a)), (λ r. absurd (r.0 high)))

module _ (d : ℕ) (sides : List (Vector Quad)) (i : ℕ) where
  pub none_proper : (side_at d sides i ≡ no_vector d) → (IsTrue false ↔ IsCornerProper d sides i)
  none_proper e = ((λ no. absurd (both_ways false refl no)), (λ p. absurd (p.0 e)))

  pub plus_proper : ¬ (side_at d sides i ≡ no_vector d) → ((Plus ≡ Minus) ↔ IsPositive d ((quad_ops d).neg (corner d sides i)))
      → ((Plus ≡ Zero) ↔ (corner d sides i ≡ zero_of d)) → (IsTrue true ↔ IsCornerProper d sides i)
  plus_proper some right flat =
      ((λ _. (some, (λ p. let e : Plus ≡ Minus = right.1 p in cc), (λ z. let e : Plus ≡ Zero = flat.1 z in cc))), (λ _. refl))

  pub zero_proper : (b : Bool) → ¬ (side_at d sides i ≡ no_vector d) → ((Zero ≡ Minus) ↔ IsPositive d ((quad_ops d).neg (corner d sides i)))
      → ((Zero ≡ Zero) ↔ (corner d sides i ≡ zero_of d)) → (IsTrue b ↔ PointAlike d (side_at d sides i) (side_after d sides i))
      → (IsTrue b ↔ IsCornerProper d sides i)
  zero_proper b some right flat alike =
      ((λ yes. (some, (λ p. let e : Zero ≡ Minus = right.1 p in cc), (λ z. alike.0 yes))), (λ p. alike.1 (p.2 (flat.0 refl))))

  pub minus_proper : ((Minus ≡ Minus) ↔ IsPositive d ((quad_ops d).neg (corner d sides i))) → (IsTrue false ↔ IsCornerProper d sides i)
  minus_proper right = ((λ no. absurd (both_ways false refl no)), (λ p. absurd (p.1 (right.0 refl))))

-- one side more
pub total_more : (d : ℕ) (vs : List (Vector Quad)) (i j : ℕ) (u s t : Vector Quad) → i < length vs → suc i ≡ j → side_at d vs i ≡ u
    → sum_of d (drop j vs) ≡ s → t ≡ vector_sum (quad_ops d) u s → sum_of d (drop i vs) ≡ t
total_more d vs i j u s t h e side sum is =
    sum_from d vs i h
    ∙ ap (λ (x : Vector Quad). vector_sum (quad_ops d) x (sum_of d (drop (suc i) vs))) side
    ∙ ap (λ (x : Vector Quad). vector_sum (quad_ops d) u x) (ap (λ (k : ℕ). sum_of d (drop k vs)) e ∙ sum)
    ∙ sym is
