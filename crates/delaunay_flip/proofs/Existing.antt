-- There is a flip at every half-edge of a triangulation.
use Rattle.std.proofs.Common.{◌≡◌, ◌≢◌, ◌⊎◌, ℕ, ◌<◌, ◌/◌, List, map, arith, length, refl, sym, ◌∙◌, ap, inl, inr}
use Rattle.std.specs.List.{range_with_len}
use Rattle.std.proofs.lemmas.Bool.{cases_eq}
use Rattle.std.proofs.lemmas.List.{get_or-map}
use Rattle.std.proofs.lemmas.List.FromFn.{get_or-range_with_len, length-range_with_len, length-map-range_with_len}
use Rattle.quad_field.specs.declared.quad.Quad.{Quad}
use Rattle.quad_field.specs.Quads.{quad_ops}
use Rattle.plane.specs.declared.vec2.Vec2.{Vec2}
use Rattle.plane.specs.Vectors.{Vector, vector, vector_sum, opposite_vector}
use Rattle.tri_core.specs.declared.half.Half.{Half}
use Rattle.tri_core.specs.HalfEdges.{no_half, half_at, vector_at, twin_at, next_of, previous_of}
use Rattle.tri_core.specs.Triangulation.{IsTriangulation}
use Rattle.tri_core.specs.Flips.{IsFlip, AreApart, number_after}
use Rattle.tri_core.proofs.CallerLemmas.{half_apart, number_before, number_back, number_injective, number_within, number_same, first_not_outer, second_not_outer}

-- one of two values, by a decision
abbrev pick : {P A : Type 0} → P ⊎ (P → ⊥) → A → A → A
pick (inl p) x y = x
pick (inr none) x y = y

picked : {P A : Type 0} → (s : P ⊎ (P → ⊥)) → P → (x y : A) → pick s x y ≡ x
picked (inl p) here x y = refl
picked (inr none) here x y = absurd (none here)

passed : {P A : Type 0} → (s : P ⊎ (P → ⊥)) → ¬ P → (x y : A) → pick s x y ≡ y
passed (inl p) none x y = absurd (none p)
passed (inr other) none x y = refl

-- the half-edges 0 to n - 1, each by its number
abbrev listed : (ℕ → Half) → ℕ → List Half
listed f n = map f (range_with_len 0 n)

listed_at : (f : ℕ → Half) (n m : ℕ) → m < n → half_at (listed f n) m ≡ f m
listed_at f n m less =
    let inside : m < length (range_with_len 0 n) = omega (arith, length-range_with_len 0 n) in
    get_or-map f (range_with_len 0 n) m 0 no_half inside ∙ ap f (get_or-range_with_len 0 n m 0 less ∙ omega arith)

-- the vector of two coordinates
abbrev vec_of : Vector Quad → Vec2
vec_of u = record { s = u.0; t = u.1 }

module _ (d : ℕ) (halves : List Half) (h : ℕ) (valid : IsTriangulation d halves) (below : h < length halves) where
  abbrev g : ℕ
  g = twin_at halves h

  apart : AreApart halves h g
  apart = half_apart d halves h valid below

  -- the new diagonal
  abbrev diagonal : Vector Quad
  diagonal = opposite_vector (quad_ops d) (vector_sum (quad_ops d) (vector_at halves (previous_of g)) (vector_at halves (next_of h)))

  -- the half-edge of number m after the flip
  abbrev vec_after : ℕ → Vec2
  vec_after m = pick (cases_eq m h) (vec_of diagonal) (pick (cases_eq m g) (vec_of (opposite_vector (quad_ops d) diagonal)) (half_at halves (number_before h g m)).vec)

  abbrev half_after : ℕ → Half
  half_after m = record { vec = vec_after m; twin = number_after h g (twin_at halves (number_before h g m)) }

  abbrev later : List Half
  later = listed half_after (length halves)

  at_number : (m : ℕ) → m < length halves → half_at later m ≡ half_after m
  at_number m inside = listed_at half_after (length halves) m inside

  number_h : number_after h g h ≡ h
  number_h = number_same h g h (first_not_outer h g apart.apart)

  number_g : number_after h g g ≡ g
  number_g = number_same h g g (second_not_outer h g apart.apart)

  within : (k : ℕ) → k < length halves → number_after h g k < length halves
  within k inside = number_within h g k (length halves) apart.count apart.first apart.second inside

  diagonal_there : vector_at later h ≡ diagonal
  diagonal_there = ap (λ x. vector x.vec) (at_number h below) ∙ ap vector (picked (cases_eq h h) refl (vec_of diagonal) _)

  twin_not_first : g ≢ h
  twin_not_first e = apart.apart (ap (λ m. m / 3) (sym e))

  opposite_there : vector_at later g ≡ opposite_vector (quad_ops d) diagonal
  opposite_there =
      ap (λ x. vector x.vec) (at_number g apart.second) ∙ ap vector (passed (cases_eq g h) twin_not_first (vec_of diagonal) _ ∙ picked (cases_eq g g) refl (vec_of (opposite_vector (quad_ops d) diagonal)) _)

  vectors_there : (k : ℕ) → k < length halves → ¬ (k ≡ h) → ¬ (k ≡ g) → vector_at later (number_after h g k) ≡ vector_at halves k
  vectors_there k inside first second =
      let m = number_after h g k in
      ap (λ x. vector x.vec) (at_number m (within k inside))
      ∙ ap vector (passed (cases_eq m h) (λ e. first (number_injective h g k h apart.apart (e ∙ sym number_h))) (vec_of diagonal) _
      ∙ passed (cases_eq m g) (λ e. second (number_injective h g k g apart.apart (e ∙ sym number_g))) (vec_of (opposite_vector (quad_ops d) diagonal)) _)
      ∙ ap (vector_at halves) (number_back h g k apart.apart)

  twins_there : (k : ℕ) → k < length halves → twin_at later (number_after h g k) ≡ number_after h g (twin_at halves k)
  twins_there k inside = ap (λ x. x.twin) (at_number (number_after h g k) (within k inside)) ∙ ap (λ m. number_after h g (twin_at halves m)) (number_back h g k apart.apart)

  pub some_flip : (later : List Half) × IsFlip d halves h later
  some_flip = (
    later,
    record {
      count = length-map-range_with_len half_after 0 (length halves);
      diagonal = diagonal_there;
      opposite = opposite_there ∙ ap (opposite_vector (quad_ops d)) (sym diagonal_there);
      vectors = vectors_there;
      twins = twins_there;
    },
  )
