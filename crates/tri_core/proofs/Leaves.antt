-- What a flip leaves: the vectors and the twins of every half-edge.
use Rattle.std.proofs.Common.{◌≡◌, ℕ, ◌<◌, List, length, refl, sym, ◌∙◌, ap, subst}
use Rattle.quad_field.specs.Quads.{quad_ops}
use Rattle.quad_field.proofs.CallerLemmas.{quad_ring}
use Rattle.rings.proofs.Turning.{opposite_twice}
use Rattle.plane.specs.Vectors.{vector_sum, opposite_vector}
use Rattle.tri_core.specs.declared.half.Half.{Half}
use Rattle.tri_core.specs.HalfEdges.{vector_at, twin_at, triangle_of, next_of, previous_of}
use Rattle.tri_core.specs.Triangulation.{IsTriangulation}
use Rattle.tri_core.specs.Flips.{IsFlip, number_after, IsOuter, AreApart}
use Rattle.tri_core.proofs.Quadrilaterals.{across, from_opposite}
use Rattle.tri_core.proofs.Triangles.{triple_at, half_apart}
use Rattle.tri_core.proofs.Moves.{cycled, cycled-first, cycled-second, cycled-third, cycled-fourth, cycled_from_third, number_same, first_not_outer, second_not_outer, elsewhere_not_outer}
use Rattle.tri_core.proofs.Stores.{AreSix, six}

-- what the flip at h, whose twin is g, leaves
pub record Leaves (d : ℕ) (halves : List Half) (h g : ℕ) (later : List Half) : Type 0 where
  pub count : length later ≡ length halves
  pub apart : AreApart halves h g
  -- the new diagonal
  pub diagonal : vector_at later h ≡ opposite_vector (quad_ops d) (vector_sum (quad_ops d) (vector_at halves (previous_of g)) (vector_at halves (next_of h)))
  pub opposite : vector_at later g ≡ opposite_vector (quad_ops d) (vector_at later h)
  pub twin : twin_at later h ≡ g
  pub twin_back : twin_at later g ≡ h
  -- the four outer sides
  pub at_next : vector_at later (next_of h) ≡ vector_at halves (previous_of g)
  pub at_previous : vector_at later (previous_of h) ≡ vector_at halves (next_of h)
  pub at_next_of_twin : vector_at later (next_of g) ≡ vector_at halves (previous_of h)
  pub at_previous_of_twin : vector_at later (previous_of g) ≡ vector_at halves (next_of g)
  -- all half-edges by their new numbers
  pub vectors : (k : ℕ) → k < length halves → ¬ (k ≡ h) → ¬ (k ≡ g) → vector_at later (number_after h g k) ≡ vector_at halves k
  pub twins : (k : ℕ) → k < length halves → twin_at later (number_after h g k) ≡ number_after h g (twin_at halves k)
  -- what isn't touched
  pub elsewhere : (k : ℕ) → k < length halves → ¬ (triangle_of k ≡ triangle_of h) → ¬ (triangle_of k ≡ triangle_of g) → vector_at later k ≡ vector_at halves k
  pub twin_kept : (k : ℕ) → k < length halves → ¬ (IsOuter h g k) → ¬ (IsOuter h g (twin_at halves k)) → twin_at later k ≡ twin_at halves k

module _ (d : ℕ) (halves : List Half) (h : ℕ) (later : List Half) (valid : IsTriangulation d halves) (below : h < length halves) (flip : IsFlip d halves h later) where
  abbrev g : ℕ
  g = twin_at halves h

  abbrev n : ℕ
  n = next_of h

  abbrev p : ℕ
  p = previous_of h

  abbrev q : ℕ
  q = next_of g

  abbrev r : ℕ
  r = previous_of g

  apart : AreApart halves h g
  apart = half_apart d halves h valid below

  s : AreSix (length halves) h g n p q r
  s = six halves h g apart

  back_g : twin_at halves g ≡ h
  back_g = (valid.paired h below).1

  kept : (k : ℕ) → k < length halves → ¬ (IsOuter h g k) → ¬ (IsOuter h g (twin_at halves k)) → twin_at later k ≡ twin_at halves k
  kept k inside a b = ap (twin_at later) (sym (number_same h g k a)) ∙ flip.twins k inside ∙ number_same h g (twin_at halves k) b

  own_leaves : Leaves d halves h g later
  own_leaves = record {
    count = flip.count;
    apart = apart;
    diagonal = flip.diagonal;
    opposite = flip.opposite;
    twin = kept h below (first_not_outer h g apart.apart) (second_not_outer h g apart.apart);
    twin_back =
        kept g apart.second (second_not_outer h g apart.apart) (subst (λ (m : ℕ). ¬ (IsOuter h g m)) (sym back_g) (first_not_outer h g apart.apart)) ∙ back_g;
    at_next = ap (vector_at later) (sym (cycled-fourth n p q r r s.four refl)) ∙ flip.vectors r s.r_in (λ e. s.h_r (sym e)) (λ e. s.g_r (sym e));
    at_previous = ap (vector_at later) (sym (cycled-first n p q r n refl)) ∙ flip.vectors n s.n_in (λ e. s.h_n (sym e)) (λ e. s.g_n (sym e));
    at_next_of_twin = ap (vector_at later) (sym (cycled-second n p q r p s.four refl)) ∙ flip.vectors p s.p_in (λ e. s.h_p (sym e)) (λ e. s.g_p (sym e));
    at_previous_of_twin = ap (vector_at later) (sym (cycled-third n p q r q s.four refl)) ∙ flip.vectors q s.q_in (λ e. s.h_q (sym e)) (λ e. s.g_q (sym e));
    vectors = flip.vectors;
    twins = flip.twins;
    elsewhere = λ k inside a b. ap (vector_at later) (sym (number_same h g k (elsewhere_not_outer h g k a b))) ∙ flip.vectors k inside (λ e. a (ap triangle_of e)) (λ e. b (ap triangle_of e));
    twin_kept = kept;
  }

  -- the same where the twin has a name of its own
  pub leaves : (m : ℕ) → twin_at halves h ≡ m → Leaves d halves h m later
  leaves m e = subst (λ (k : ℕ). Leaves d halves h k later) e own_leaves

-- the flip at the twin is the flip
module _ (d : ℕ) (halves : List Half) (valid : IsTriangulation d halves) (j : ℕ) (inside : j < length halves) where
  abbrev i : ℕ
  i = twin_at halves j

  pub number_from_twin : (k : ℕ) → number_after i (twin_at halves i) k ≡ number_after j i k
  number_from_twin k =
      let back = (valid.paired j inside).1 in
      let there = (valid.paired j inside).0 in
      ap (λ (m : ℕ). cycled (next_of i) (previous_of i) (next_of m) (previous_of m) k) back
      ∙ cycled_from_third (next_of j) (previous_of j) (next_of i) (previous_of i) k (six halves j i (half_apart d halves j valid inside)).four
      (six halves i j (subst (AreApart halves i) back (half_apart d halves i valid there))).four

  pub flip_from_twin : (later : List Half) → IsFlip d halves (twin_at halves j) later → IsFlip d halves j later
  flip_from_twin later flip =
      let O = quad_ops d in
      let back = (valid.paired j inside).1 in
      let there = (valid.paired j inside).0 in
      let own = triple_at d halves j valid inside in
      let other = triple_at d halves i valid there in
      let at_j : vector_at later j ≡ opposite_vector O (vector_at later i) = ap (vector_at later) (sym back) ∙ flip.opposite in
      let at_i : vector_at later i ≡ opposite_vector O (vector_sum O (vector_at halves (previous_of j)) (vector_at halves (next_of i))) =
      flip.diagonal ∙ ap (λ (k : ℕ). opposite_vector O (vector_sum O (vector_at halves (previous_of k)) (vector_at halves (next_of i)))) back in
      record {
        count = flip.count;
        diagonal =
            at_j ∙ ap (opposite_vector O) at_i ∙ opposite_twice O (quad_ring d) (vector_sum O (vector_at halves (previous_of j)) (vector_at halves (next_of i)))
            ∙ across O (quad_ring d) (vector_at halves j) (vector_at halves i) (vector_at halves (next_of j)) (vector_at halves (previous_of j)) (vector_at halves (next_of i)) (vector_at halves (previous_of i))
            (valid.paired j inside).2 own.closed other.closed;
        opposite = from_opposite d (vector_at later i) (vector_at later j) at_j;
        vectors = λ k below a b. ap (vector_at later) (sym (number_from_twin k)) ∙ flip.vectors k below b (λ e. a (e ∙ back));
        twins = λ k below. ap (twin_at later) (sym (number_from_twin k)) ∙ flip.twins k below ∙ number_from_twin (twin_at halves k);
      }
