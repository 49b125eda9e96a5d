-- What a wall says of its triangulation: its edges are strictly convex, and all is strict at some half-plane point beside it.
use Rattle.std.proofs.Common.{◌≡◌, ◌⊎◌, inl, inr, ℕ, ◌<◌, List, length, subst, sym, ◌∙◌, arith}
use Rattle.std.specs.Prelude.{pos}
use Rattle.std.proofs.lemmas.Bool.{cases_lt}
use Rattle.rings.specs.Order.{Sign, is_zero, is_positive, is_negative}
use Rattle.rings.specs.Forms.{value_at}
use Rattle.rings.proofs.Ordered.{not_both_signs}
use Rattle.rings.proofs.Signs.{never_positive, never_negative}
use Rattle.rings.proofs.Multiples.{multiple_zero, multiple_direction, dot_swap}
use Rattle.rings.proofs.LargeMultiples.{Rises, point_after}
use Rattle.quad_field.specs.declared.quad.Quad.{Quad}
use Rattle.quad_field.specs.FieldNumber.{IsFieldNumber}
use Rattle.quad_field.specs.Quads.{quad_ops, IsPositive}
use Rattle.quad_field.proofs.CallerLemmas.{quad_ring, order_of, archimedean}
use Rattle.tri_core.specs.declared.half.Half.{Half}
use Rattle.tri_core.specs.HalfEdges.{twin_at}
use Rattle.tri_core.specs.Triangulation.{IsTriangulation}
use Rattle.tri_core.specs.Flips.{IsEdge, IsStrictlyConvex}
use Rattle.hinge_form.specs.Triples.{Triple, zeros}
use Rattle.hinge_form.specs.Hinges.{IsHalfPlanePoint, IsStrictAt, hinge_value, full_triple}
use Rattle.hinge_form.specs.Lines.{IsMultiple}
use Rattle.hinge_form.specs.Walls.{IsWallPoint}
use Rattle.hinge_form.proofs.Multiples.{zeros_value}
use Rattle.hinge_form.proofs.Hinged.{value_of_triple, convex_at}

module _ (d : ℕ) (field : IsFieldNumber d) (halves : List Half) (valid : IsTriangulation d halves) (l : Triple) where
  -- an edge of a line has the value zero on it
  pub zero_on_line : (h : ℕ) → IsMultiple d l (full_triple d halves h) → (q : Triple) → value_at (quad_ops d) l q ≡ (quad_ops d).int (pos 0) → hinge_value d halves h q ≡ (quad_ops d).int (pos 0)
  zero_on_line h own q on = value_of_triple d halves h q ∙ multiple_zero (quad_ops d) (quad_ring d) (order_of d field) l (full_triple d halves h) q own on

  module _ (q : Triple) (point : IsWallPoint d halves l q) where
    -- an edge of a wall is a strictly convex hinge
    pub wall_convex : (h : ℕ) → h < length halves → IsMultiple d l (full_triple d halves h) → IsStrictlyConvex d halves h
    wall_convex h below own = convex_at d halves h q field valid below point.inside (never_positive (quad_ops d) (quad_ring d) (order_of d field) (hinge_value d halves h q) (zero_on_line h own q point.on))

    -- each edge is positive at the wall's point, or zero there and positive in the direction of the form
    rises : (some : ¬ (l ≡ zeros)) (h : ℕ) → IsEdge halves h → Rises (quad_ops d) (quad_ring d) (order_of d field) (archimedean d field) q l point.inside (full_triple d halves h)
    rises some h edge = at_point ((order_of d field).sign (value q))
      where
        value : Triple → Quad
        value x = value_at (quad_ops d) (full_triple d halves h) x

        -- what isn't the line's own is positive
        other : ¬ (IsMultiple d l (full_triple d halves h)) → IsPositive d (value_at (quad_ops d) (full_triple d halves h) q)
        other none = subst (IsPositive d) (value_of_triple d halves h q) (point.others h edge none)

        along : ¬ (IsPositive d (value_at (quad_ops d) (full_triple d halves h) l)) → ¬ (IsMultiple d l (full_triple d halves h))
        along none own =
            none (subst (IsPositive d) (dot_swap (quad_ops d) (quad_ring d) l (full_triple d halves h)) (multiple_direction (quad_ops d) (quad_ring d) (order_of d field) l (full_triple d halves h) some own))

        in_direction : value_at (quad_ops d) (full_triple d halves h) q ≡ (quad_ops d).int (pos 0) → Sign (quad_ops d) (IsPositive d) (value_at (quad_ops d) (full_triple d halves h) l)
            → IsPositive d (value_at (quad_ops d) (full_triple d halves h) l)
        in_direction z (is_positive p) = p
        in_direction z (is_zero e) = absurd (never_positive (quad_ops d) (quad_ring d) (order_of d field) _ z (other (along (never_positive (quad_ops d) (quad_ring d) (order_of d field) _ e))))
        in_direction z (is_negative n) =
            absurd (never_positive (quad_ops d) (quad_ring d) (order_of d field) _ z (other (along (λ p. not_both_signs (quad_ops d) (quad_ring d) (order_of d field) _ p n))))

        at_point : Sign (quad_ops d) (IsPositive d) (value_at (quad_ops d) (full_triple d halves h) q)
            → Rises (quad_ops d) (quad_ring d) (order_of d field) (archimedean d field) q l point.inside (full_triple d halves h)
        at_point (is_positive p) = inl p
        at_point (is_zero z) = inr (z, in_direction z ((order_of d field).sign (value_at (quad_ops d) (full_triple d halves h) l)))
        at_point (is_negative n) =
            absurd (not_both_signs (quad_ops d) (quad_ring d) (order_of d field) _
            (other (λ own. never_negative (quad_ops d) (quad_ring d) (order_of d field) _ (multiple_zero (quad_ops d) (quad_ring d) (order_of d field) l (full_triple d halves h) q own point.on) n)) n)

    -- a half-edge is an edge, or it isn't
    edge_or_not : (h : ℕ) → IsEdge halves h ⊎ ¬ (IsEdge halves h)
    edge_or_not h = elim (cases_lt h (length halves)) [
      | inl below ↦ elim (cases_lt h (twin_at halves h)) [
        | inl less ↦ inl (below, less)
        | inr more ↦ inr (λ e. let less = e.1 in omega arith)
      ]
      | inr past ↦ inr (λ e. let below = e.0 in omega arith)
    ]

    -- N·q + l for a large N: there all is strict
    pub strict_beside : ¬ (l ≡ zeros) → (x : Triple) × IsHalfPlanePoint d x × IsStrictAt d halves x
    strict_beside some =
        let each : (h : ℕ) → (¬ (IsEdge halves h)) ⊎ Rises (quad_ops d) (quad_ring d) (order_of d field) (archimedean d field) q l point.inside (full_triple d halves h) = λ h. by_edge h (edge_or_not h) in
        let found = point_after (quad_ops d) (quad_ring d) (order_of d field) (archimedean d field) q l point.inside zeros (zeros_value d q) (zeros_value d l)
        (λ h. ¬ (IsEdge halves h)) (full_triple d halves) (length halves) (λ h under. each h) in
        (found.0, found.1, λ h edge. pick h found.0 edge (found.3 h edge.0))
      where
        by_edge : (h : ℕ) → IsEdge halves h ⊎ ¬ (IsEdge halves h) → (¬ (IsEdge halves h)) ⊎ Rises (quad_ops d) (quad_ring d) (order_of d field) (archimedean d field) q l point.inside (full_triple d halves h)
        by_edge h (inl edge) = inr (rises some h edge)
        by_edge h (inr none) = inl none

        pick : (h : ℕ) (x : Triple) → IsEdge halves h → (¬ (IsEdge halves h)) ⊎ IsPositive d (value_at (quad_ops d) (full_triple d halves h) x) → IsPositive d (hinge_value d halves h x)
        pick h x edge (inl none) = absurd (none edge)
        pick h x edge (inr p) = subst (IsPositive d) (sym (value_of_triple d halves h x)) p
