-- A hinge whose line has no chord is positive at every half-plane point.
use Rattle.std.proofs.Common.{ℕ, ◌<◌, List, [], ◌∷◌, length, subst, sym, ap, ◌∙◌}
use Rattle.std.specs.Prelude.{pos}
use Rattle.rings.specs.Ring.{var, expr}
use Rattle.rings.specs.Order.{Sign, is_zero, is_positive, is_negative}
use Rattle.rings.specs.Forms.{det, discriminant}
use Rattle.rings.proofs.Solver.{identity}
use Rattle.rings.proofs.Ordered.{factor, not_both_signs}
use Rattle.quad_field.specs.declared.quad.Quad.{Quad}
use Rattle.quad_field.specs.FieldNumber.{IsFieldNumber}
use Rattle.quad_field.specs.Quads.{quad_ops, IsPositive}
use Rattle.quad_field.proofs.CallerLemmas.{quad_ring, order_of}
use Rattle.tri_core.specs.declared.half.Half.{Half}
use Rattle.tri_core.specs.HalfEdges.{vector_at, twin_at, next_of, previous_of}
use Rattle.tri_core.specs.Triangulation.{IsTriangulation}
use Rattle.tri_core.specs.Flips.{IsStrictlyConvex}
use Rattle.hinge_form.specs.Triples.{Triple}
use Rattle.hinge_form.specs.Hinges.{IsHalfPlanePoint, hinge_value, full_triple, IsHingeTriple}
use Rattle.hinge_form.specs.Lines.{HasChord}
use Rattle.hinge_form.proofs.Turned.{chord_of_turns, discriminant_of_multiple}
use Rattle.hinge_form.proofs.Hinged.{convex_at, first_positive, second_positive, next_is, behind_is, hinge_factor}

-- four times a positive value
four_times : (d : ℕ) → IsFieldNumber d → (x : Quad) → IsPositive d x → IsPositive d ((quad_ops d).mul ((quad_ops d).int (pos 4)) x)
four_times d field x q =
    let O = quad_ops d in
    subst (IsPositive d) (identity O (quad_ring d) (x ∷ []) (expr.add (expr.add (var 0) (var 0)) (expr.add (var 0) (var 0))) (expr.mul (expr.int (pos 4)) (var 0)) tt)
    ((order_of d field).sum _ _ ((order_of d field).sum _ _ q q) ((order_of d field).sum _ _ q q))

module _ (d : ℕ) (halves : List Half) (h : ℕ) (valid : IsTriangulation d halves) (below : h < length halves) (field : IsFieldNumber d) where
  -- the line of a strictly convex hinge has a chord
  pub convex_chord : IsStrictlyConvex d halves h → HasChord d (full_triple d halves h)
  convex_chord convex =
      let O = quad_ops d in
      let va = vector_at halves h in
      let vp = vector_at halves (previous_of h) in
      let ve = vector_at halves (next_of (twin_at halves h)) in
      subst (IsPositive d) (sym (chord_of_turns O (quad_ring d) va vp ve))
      (four_times d field _
      ((order_of d field).product _ _ ((order_of d field).product _ _ (first_positive d halves h valid below) (second_positive d halves h valid below))
      ((order_of d field).product _ _ convex.second
      (subst (IsPositive d) (λ i. det O (behind_is d halves h valid below i) (next_is d halves h valid below i)) convex.fourth))))

  module _ (l : Triple) (t : IsHingeTriple d halves h l) where
    chord_out : HasChord d (full_triple d halves h) → HasChord d l
    chord_out c =
        let f = hinge_factor d halves h valid below field l t in
        factor (quad_ops d) (quad_ring d) (order_of d field) (discriminant (quad_ops d) l) ((quad_ops d).mul f.factor f.factor)
        (subst (IsPositive d) (ap (discriminant (quad_ops d)) f.out ∙ discriminant_of_multiple (quad_ops d) (quad_ring d) f.factor l) c)
        ((order_of d field).product _ _ f.positive f.positive)

    pub positive_without_chord : ¬ (HasChord d l) → (q : Triple) → IsHalfPlanePoint d q → IsPositive d (hinge_value d halves h q)
    positive_without_chord none q point = go ((order_of d field).sign (hinge_value d halves h q))
      where
        flat : ¬ (IsPositive d (hinge_value d halves h q)) → ⊥
        flat other = none (chord_out (convex_chord (convex_at d halves h q field valid below point other)))

        go : Sign (quad_ops d) (IsPositive d) (hinge_value d halves h q) → IsPositive d (hinge_value d halves h q)
        go (is_positive x) = x
        go (is_zero z) = absurd (flat (λ x. (order_of d field).zero_is_not (subst (IsPositive d) z x)))
        go (is_negative y) = absurd (flat (λ x. not_both_signs (quad_ops d) (quad_ring d) (order_of d field) (hinge_value d halves h q) x y))
