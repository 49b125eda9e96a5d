-- The hinge of a half-edge of a triangulation: its determinants, its value, and that of its twin.
use Rattle.std.proofs.Common.{◌≡◌, ℕ, ◌<◌, ◌≤◌, List, length, sym, ◌∙◌, ap, subst}
use Rattle.std.specs.Prelude.{pos}
use Rattle.rings.specs.Forms.{det, value_at, three_row_determinant}
use Rattle.rings.specs.Lines.{HasPositiveFactor}
use Rattle.rings.proofs.Forms as forms
use Rattle.rings.proofs.Multiples.{form_by_values, some_out}
use Rattle.quad_field.specs.declared.quad.Quad.{Quad}
use Rattle.quad_field.specs.FieldNumber.{IsFieldNumber}
use Rattle.quad_field.specs.Quads.{quad_ops, scaled, IsPositive}
use Rattle.quad_field.proofs.CallerLemmas.{quad_ring, order_of}
use Rattle.plane.specs.Vectors.{Vector, opposite_vector}
use Rattle.tri_core.specs.declared.half.Half.{Half}
use Rattle.tri_core.specs.HalfEdges.{vector_at, twin_at, next_of, previous_of}
use Rattle.tri_core.specs.Triangulation.{TurnsInto, IsTriangulation}
use Rattle.tri_core.specs.Flips.{IsStrictlyConvex, next_of_twin, previous_of_twin}
use Rattle.hinge_form.specs.Triples.{Triple, zeros}
use Rattle.hinge_form.specs.Hinges.{IsHalfPlanePoint, hinge_a, hinge_c, hinge_d, hinge_value, full_triple, IsHingeTriple}
use Rattle.hinge_form.proofs.Turned.{third_side, flat_place, twin_value, determinant_opposite_first, determinant_opposite_second}
use Rattle.hinge_form.proofs.Rises.{turns_where_not_positive, flat_positive}
use Rattle.tri_core.proofs.CallerLemmas.{IsTriple, triple_turned, triple_third, triple_at}
use Rattle.hinge_form.proofs.Multiples.{times_value, zeros_value, divisor_some, reduced_factor}

-- the value of a hinge is that of its triple
pub value_of_triple : (d : ℕ) (halves : List Half) (h : ℕ) (q : Triple) → hinge_value d halves h q ≡ value_at (quad_ops d) (full_triple d halves h) q
value_of_triple d halves h q = forms.hinge_value (quad_ops d) (quad_ring d) q (hinge_a halves h) (hinge_c d halves h) (hinge_d halves h)

module _ (d : ℕ) (halves : List Half) (h : ℕ) (valid : IsTriangulation d halves) (below : h < length halves) where
  -- the vectors of its two triangles
  abbrev a : Vector Quad
  a = vector_at halves h

  abbrev n : Vector Quad
  n = vector_at halves (next_of h)

  abbrev p : Vector Quad
  p = vector_at halves (previous_of h)

  abbrev e : Vector Quad
  e = vector_at halves (next_of (twin_at halves h))

  abbrev r : Vector Quad
  r = vector_at halves (previous_of (twin_at halves h))

  pub own_triple : IsTriple d a n p
  own_triple = triple_at d halves h valid below

  pub turned_triple : IsTriple d p a n
  turned_triple = triple_turned d n p a (triple_turned d a n p own_triple)

  pub twin_triple : IsTriple d (opposite_vector (quad_ops d) a) e r
  twin_triple = subst (λ (v : Vector Quad). IsTriple d v e r) (valid.paired h below).2 (triple_at d halves (twin_at halves h) valid (valid.paired h below).0)

  pub next_is : n ≡ third_side (quad_ops d) p a
  next_is = triple_third d p a n turned_triple

  pub behind_is : r ≡ third_side (quad_ops d) (opposite_vector (quad_ops d) a) e
  behind_is = triple_third d (opposite_vector (quad_ops d) a) e r twin_triple

  -- det(a, c) and det(d, a) are positive
  pub first_positive : IsPositive d (det (quad_ops d) (hinge_a halves h) (hinge_c d halves h))
  first_positive = subst (IsPositive d) (sym (determinant_opposite_second (quad_ops d) (quad_ring d) a p)) turned_triple.turns

  pub second_positive : IsPositive d (det (quad_ops d) (hinge_d halves h) (hinge_a halves h))
  second_positive = subst (IsPositive d) (determinant_opposite_first (quad_ops d) (quad_ring d) a e) twin_triple.turns

  -- one value from both ends
  pub value_from_twin : (q : Triple) → hinge_value d halves (twin_at halves h) q ≡ hinge_value d halves h q
  value_from_twin q =
      let O = quad_ops d in
      let back = opposite_vector O in
      let paired = valid.paired h below in
      ap (λ (v : Vector Quad). three_row_determinant O q v (back r) (vector_at halves (next_of (twin_at halves (twin_at halves h))))) paired.2
      ∙ ap (λ (m : ℕ). three_row_determinant O q (back a) (back r) (vector_at halves (next_of m))) paired.1
      ∙ ap (λ (v : Vector Quad). three_row_determinant O q (back a) (back v) n) behind_is
      ∙ ap (λ (v : Vector Quad). three_row_determinant O q (back a) (back (third_side O (back a) e)) v) next_is
      ∙ twin_value O (quad_ring d) q a p e

  -- and one triple
  pub full_triple-twin : full_triple d halves (twin_at halves h) ≡ full_triple d halves h
  full_triple-twin =
      form_by_values (quad_ops d) (quad_ring d) (full_triple d halves (twin_at halves h)) (full_triple d halves h)
      (λ q. sym (value_of_triple d halves (twin_at halves h) q) ∙ value_from_twin q ∙ value_of_triple d halves h q)

  module _ (field : IsFieldNumber d) where
    -- the triple is not zero
    pub full_some : ¬ (full_triple d halves h ≡ zeros)
    full_some none =
        let O = quad_ops d in
        let q = flat_place O a in
        (order_of d field).zero_is_not
        (subst (IsPositive d) (value_of_triple d halves h q ∙ ap (λ (l : Triple). value_at O l q) none ∙ zeros_value d q)
        (flat_positive O (quad_ring d) (order_of d field) (hinge_a halves h) (hinge_c d halves h) (hinge_d halves h) first_positive second_positive))

    module _ (l : Triple) (t : IsHingeTriple d halves h l) where
      -- it is the reduced triple times a positive K-integer
      pub hinge_factor : HasPositiveFactor (quad_ops d) (IsPositive d) (full_triple d halves h) l
      hinge_factor = reduced_factor d (full_triple d halves h) l full_some t

      -- which isn't zero either
      pub hinge_some : ¬ (l ≡ zeros)
      hinge_some = some_out (quad_ops d) (quad_ring d) (order_of d field) (full_triple d halves h) l hinge_factor full_some

      -- and is a whole number
      pub value_multiple : (g : ℕ) × (1 ≤ g) × ((q : Triple) → hinge_value d halves h q ≡ scaled (pos g) (value_at (quad_ops d) l q))
      value_multiple = (
        t.divisor,
        divisor_some t.divisor (full_triple d halves h) l t.taken_out full_some,
        λ q. value_of_triple d halves h q ∙ ap (λ (m : Triple). value_at (quad_ops d) m q) t.taken_out ∙ times_value d t.divisor l q,
      )

    -- where the value isn't positive, the side before h turns to the left into the side behind its twin
    pub second_turn : (q : Triple) → IsHalfPlanePoint d q → ¬ (IsPositive d (hinge_value d halves h q)) → TurnsInto d halves (previous_of h) (next_of_twin halves h)
    second_turn q point none =
        subst (IsPositive d) (determinant_opposite_second (quad_ops d) (quad_ring d) e p)
        (turns_where_not_positive (quad_ops d) (quad_ring d) (order_of d field) q (hinge_a halves h) (hinge_c d halves h) (hinge_d halves h) point.0 point.1 first_positive second_positive none)

-- and from the twin the same: the quadrilateral is strictly convex
pub convex_at : (d : ℕ) (halves : List Half) (h : ℕ) (q : Triple) → IsFieldNumber d → IsTriangulation d halves → h < length halves → IsHalfPlanePoint d q
    → ¬ (IsPositive d (hinge_value d halves h q)) → IsStrictlyConvex d halves h
convex_at d halves h q field valid below point none =
    let paired = valid.paired h below in
    let other = second_turn d halves (twin_at halves h) valid paired.0 field q point (λ p. none (subst (IsPositive d) (value_from_twin d halves h valid below q) p)) in
    record {
      first = (triple_turned d _ _ _ (own_triple d halves h valid below)).turns;
      second = second_turn d halves h valid below field q point none;
      third = (triple_turned d _ _ _ (twin_triple d halves h valid below)).turns;
      fourth = subst (λ (m : ℕ). TurnsInto d halves (previous_of_twin halves h) (next_of m)) paired.1 other;
    }
