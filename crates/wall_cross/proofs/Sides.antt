-- No two sides of a triangle have the line of one wall.
use Rattle.std.proofs.Common.{◌≡◌, ℕ, [], ◌∷◌, ◌<◌, List, length, sym, ◌∙◌, ap, subst, arith}
use Rattle.std.specs.Prelude.{pos}
use Rattle.rings.specs.Ring.{Ops, IsRing, var, expr}
use Rattle.rings.specs.Order.{IsOrdered}
use Rattle.rings.specs.Vectors.{Vector, opposite_vector}
use Rattle.rings.specs.Forms.{det, value_at, three_row_determinant}
use Rattle.rings.specs.Lines.{opposite_triple, IsPositiveMultiple}
use Rattle.rings.proofs.Solver.{identity}
use Rattle.rings.proofs.Ordered.{factor, not_both_signs}
use Rattle.rings.proofs.Signs.{never_positive}
use Rattle.rings.proofs.Multiples.{multiple_value, value_at_opposite}
use Rattle.quad_field.specs.declared.quad.Quad.{Quad}
use Rattle.quad_field.specs.FieldNumber.{IsFieldNumber}
use Rattle.quad_field.specs.Quads.{quad_ops, IsPositive}
use Rattle.quad_field.proofs.CallerLemmas.{quad_ring, order_of, natural_positive}
use Rattle.tri_core.specs.declared.half.Half.{Half}
use Rattle.tri_core.specs.HalfEdges.{vector_at, twin_at, next_of, previous_of}
use Rattle.tri_core.specs.Triangulation.{IsTriangulation}
use Rattle.tri_core.specs.Flips.{IsStrictlyConvex}
use Rattle.tri_core.proofs.CallerLemmas.{next_next, previous_next, next_inside, twin_inside, triple_at, triple_turned, next_is, previous_is}
use Rattle.hinge_form.specs.Triples.{Triple}
use Rattle.hinge_form.specs.Hinges.{hinge_value, full_triple}
use Rattle.hinge_form.specs.Lines.{IsMultiple}
use Rattle.hinge_form.specs.Walls.{IsWallPoint}
use Rattle.hinge_form.proofs.CallerLemmas.{value_of_triple, convex_at, zero_on_line}
use Rattle.wall_cross.proofs.Apexes.{third, corner_place, corner_value, next_corner_value}

-- where a form has a positive value, so has each form of which it is a positive multiple
module _ {R : Type 0} (O : Ops R) (L : IsRing O) {P : R → Type 0} (Q : IsOrdered O P) (l k : R × R × R) (h : IsPositiveMultiple O P l k) where
  same_positive : (q : R × R × R) → P (value_at O k q) → P (value_at O l q)
  same_positive q p =
      factor O L Q (value_at O l q) h.1
      (subst P
      (sym (multiple_value O L h.0 k q) ∙ ap (λ (m : R × R × R). value_at O m q) h.4 ∙ multiple_value O L h.1 l q ∙ L.mul_comm h.1 (value_at O l q))
      (Q.product h.0 (value_at O k q) h.2 p)) h.3

  -- and the same with negative values, at the opposite place
  same_negative : (q : R × R × R) → P (O.neg (value_at O k q)) → P (O.neg (value_at O l q))
  same_negative q p =
      subst P (value_at_opposite O L l q) (same_positive (opposite_triple O q) (subst P (sym (value_at_opposite O L k q)) p))

module _ (d : ℕ) (field : IsFieldNumber d) (halves : List Half) (valid : IsTriangulation d halves) where
  abbrev O : Ops Quad
  O = quad_ops d

  abbrev L : IsRing (quad_ops d)
  L = quad_ring d

  abbrev Q : IsOrdered (quad_ops d) (IsPositive d)
  Q = order_of d field

  two : IsPositive d (O.int (pos 2))
  two = natural_positive d 2 (omega arith)

  module _ (h : ℕ) (below : h < length halves) (convex : IsStrictlyConvex d halves h) (next_convex : IsStrictlyConvex d halves (next_of h)) where
    abbrev a : Vector Quad
    a = vector_at halves h

    abbrev p : Vector Quad
    p = vector_at halves (previous_of h)

    abbrev n : Vector Quad
    n = vector_at halves (next_of h)

    abbrev e : Vector Quad
    e = vector_at halves (next_of (twin_at halves h))

    abbrev z : Vector Quad
    z = vector_at halves (next_of (twin_at halves (next_of h)))

    abbrev s : Vector Quad
    s = vector_at halves (previous_of (twin_at halves (next_of h)))

    -- the place where h and the side before it have no length
    abbrev place : Triple
    place = corner_place O a (opposite_vector O p)

    own : IsPositive d (det O p a)
    own = (triple_turned d n p a (triple_turned d a n p (triple_at d halves h valid below))).turns

    behind : IsPositive d (det O e a)
    behind =
        subst (IsPositive d)
        (ap (λ (v : Vector Quad). det O v e) (valid.paired h below).2
        ∙ identity O L (a.0 ∷ a.1 ∷ e.0 ∷ e.1 ∷ []) (det expr (opposite_vector expr (var 0, var 1)) (var 2, var 3)) (det expr (var 2, var 3) (var 0, var 1)) tt)
        (triple_at d halves (twin_at halves h) valid (twin_inside d halves h valid below)).turns

    -- there the value of h is negative
    own_negative : IsPositive d (O.neg (hinge_value d halves h place))
    own_negative =
        subst (IsPositive d)
        (identity O L (O.mul (O.int (pos 2)) (O.mul (O.mul (det O p a) (det O e a)) (det O p e)) ∷ []) (var 0) (expr.neg (expr.neg (var 0))) tt
        ∙ ap O.neg (sym (corner_value O L a p e)))
        (Q.product _ _ two (Q.product _ _ (Q.product _ _ own behind) convex.second))

    -- and that of the next side positive
    second_turn : IsPositive d (det O a z)
    second_turn = subst (λ (k : ℕ). IsPositive d (det O (vector_at halves k) z)) (previous_next h) next_convex.second

    fourth_turn : IsPositive d (det O s p)
    fourth_turn = subst (λ (k : ℕ). IsPositive d (det O s (vector_at halves k))) (next_next h) next_convex.fourth

    n_is : n ≡ third O p a
    n_is = next_is d halves h valid below

    s_is : s ≡ third O (opposite_vector O (third O p a)) z
    s_is =
        let after = next_inside d halves h valid below in
        previous_is d halves (twin_at halves (next_of h)) valid (twin_inside d halves (next_of h) valid after)
        ∙ ap (λ (v : Vector Quad). third O v z) ((valid.paired (next_of h) after).2 ∙ ap (opposite_vector O) n_is)

    next_positive : IsPositive d (hinge_value d halves (next_of h) place)
    next_positive =
        subst (IsPositive d)
        (sym (next_corner_value O L a p z)
        ∙ ap (λ (v : Vector Quad). three_row_determinant O place v (opposite_vector O a) z) (sym n_is)
        ∙ ap (λ (k : ℕ). three_row_determinant O place n (opposite_vector O (vector_at halves k)) z) (sym (previous_next h)))
        (Q.product _ _ two (Q.product _ _ (Q.product _ _ own second_turn) (subst (λ (v : Vector Quad). IsPositive d (det O v p)) s_is fourth_turn)))

    -- so they have no line in common
    apart : (l : Triple) → IsMultiple d l (full_triple d halves h) → ¬ (IsMultiple d l (full_triple d halves (next_of h)))
    apart l one other =
        not_both_signs O L Q (value_at O l place)
        (same_positive O L Q l (full_triple d halves (next_of h)) other place (subst (IsPositive d) (value_of_triple d halves (next_of h) place) next_positive))
        (same_negative O L Q l (full_triple d halves h) one place (subst (IsPositive d) (ap O.neg (value_of_triple d halves h place)) own_negative))

  -- where the line has a half-plane point, its edges are strictly convex
  pub on_wall_convex : (l q : Triple) → IsWallPoint d halves l q → (h : ℕ) → h < length halves → IsMultiple d l (full_triple d halves h) → IsStrictlyConvex d halves h
  on_wall_convex l q point h below own =
      convex_at d halves h q field valid below point.inside (never_positive O L Q (hinge_value d halves h q) (zero_on_line d field halves valid l h own q point.on))

  pub sides_apart : (l q : Triple) → IsWallPoint d halves l q → (h : ℕ) → h < length halves
      → IsMultiple d l (full_triple d halves h) → ¬ (IsMultiple d l (full_triple d halves (next_of h)))
  sides_apart l q point h below one other =
      apart h below (on_wall_convex l q point h below one) (on_wall_convex l q point (next_of h) (next_inside d halves h valid below) other) l one other
