-- Hinge values after flips at all members of a set: that of a member is the opposite one, and where all members' values are zero, all others keep their signs.
use Rattle.std.proofs.Common.{◌≡◌, ℕ, [], ◌∷◌, ◌<◌, Bool, true, false, List, length, sym, ◌∙◌, ap, subst, inl, inr}
use Rattle.std.specs.Prelude.{pos}
use Rattle.std.proofs.lemmas.Bool.{cases_Bool}
use Rattle.rings.specs.Ring.{Ops, IsRing, var, expr}
use Rattle.rings.specs.Order.{IsOrdered}
use Rattle.rings.specs.Vectors.{Vector, vector_sum, opposite_vector}
use Rattle.rings.specs.Forms.{det, three_row_determinant}
use Rattle.rings.specs.Lines.{opposite_triple}
use Rattle.rings.proofs.Solver.{identity}
use Rattle.rings.proofs.Turning.{opposite_twice}
use Rattle.rings.proofs.Multiples.{form_by_values, opposite_value}
use Rattle.quad_field.specs.declared.quad.Quad.{Quad}
use Rattle.quad_field.specs.FieldNumber.{IsFieldNumber}
use Rattle.quad_field.specs.Quads.{quad_ops, IsPositive}
use Rattle.quad_field.proofs.CallerLemmas.{quad_ring, order_of}
use Rattle.tri_core.specs.declared.half.Half.{Half}
use Rattle.tri_core.specs.HalfEdges.{vector_at, twin_at, next_of, previous_of}
use Rattle.tri_core.specs.Triangulation.{IsTriangulation}
use Rattle.tri_core.specs.SeveralFlips.{IsSpread, number_after_all, AreFlipped}
use Rattle.tri_core.proofs.CallerLemmas.{next_next, next_previous, previous_next, next_inside, previous_inside, twin_inside, triple_at, triple_turned, next_is, previous_is, number_following, number_preceding, number_staying}
use Rattle.hinge_form.specs.Triples.{Triple}
use Rattle.hinge_form.specs.Hinges.{hinge_value, hinge_c, full_triple}
use Rattle.hinge_form.proofs.CallerLemmas.{value_of_triple}
use Rattle.wall_cross.proofs.Apexes.{third, by_apexes, AreAlike, apexes_swapped, one_apex, outer_next, outer_previous, diagonal_value, far_apex, alike_after, apex_exchanged}
use Rattle.wall_cross.proofs.AtOnce.{clear_previous_vector, member_twin, at_previous, at_next, at_next_of_twin, at_twin, number_inside, still_inside}

-- ---- the sides and apexes of a half-edge
module _ (d : ℕ) (halves : List Half) (k : ℕ) (valid : IsTriangulation d halves) (below : k < length halves) where
  -- the side before its twin, by its own vector and the one behind the twin
  before_twin_is : vector_at halves (previous_of (twin_at halves k)) ≡ third (quad_ops d) (opposite_vector (quad_ops d) (vector_at halves k)) (vector_at halves (next_of (twin_at halves k)))
  before_twin_is =
      let g = twin_at halves k in
      previous_is d halves g valid (twin_inside d halves k valid below)
      ∙ ap (λ (v : Vector Quad). third (quad_ops d) v (vector_at halves (next_of g))) (valid.paired k below).2

  -- its apex lies to the left
  apex_left : IsPositive d (det (quad_ops d) (vector_at halves k) (hinge_c d halves k))
  apex_left =
      let v = vector_at halves k in
      let n = vector_at halves (next_of k) in
      let p = vector_at halves (previous_of k) in
      subst (IsPositive d)
      (identity (quad_ops d) (quad_ring d) (v.0 ∷ v.1 ∷ p.0 ∷ p.1 ∷ []) (det expr (var 2, var 3) (var 0, var 1)) (det expr (var 0, var 1) (opposite_vector expr (var 2, var 3))) tt)
      (triple_turned d n p v (triple_turned d v n p (triple_at d halves k valid below))).turns

  -- its value is that of its two apexes
  value_by_apexes : (x : Triple) → hinge_value d halves k x ≡ by_apexes (quad_ops d) x (vector_at halves k) (hinge_c d halves k) (hinge_c d halves (twin_at halves k))
  value_by_apexes x =
      let O = quad_ops d in
      let g = twin_at halves k in
      let v = vector_at halves k in
      let r = vector_at halves (previous_of g) in
      ap (λ (w : Vector Quad). three_row_determinant O x v (hinge_c d halves k) w)
      (next_is d halves g valid (twin_inside d halves k valid below) ∙ ap (λ (w : Vector Quad). third O r w) (valid.paired k below).2 ∙ far_apex O (quad_ring d) v r)

module _ (d : ℕ) (halves : List Half) (valid : IsTriangulation d halves) (set : ℕ → Bool) (spread : IsSpread halves set) (later : List Half) (flips : AreFlipped d halves set later) where
  abbrev O : Ops Quad
  O = quad_ops d

  abbrev L : IsRing (quad_ops d)
  L = quad_ring d

  abbrev back : Vector Quad → Vector Quad
  back v = opposite_vector (quad_ops d) v

  abbrev number : ℕ → ℕ
  number k = number_after_all halves set k

  -- ---- a member
  pub member_value : (h : ℕ) → h < length halves → set h ≡ true → (x : Triple) → hinge_value d later h x ≡ O.neg (hinge_value d halves h x)
  member_value h below e x =
      let g = twin_at halves h in
      let a = vector_at halves h in
      let n = vector_at halves (next_of h) in
      let p = vector_at halves (previous_of h) in
      let q = vector_at halves (next_of g) in
      let r = vector_at halves (previous_of g) in
      ap (λ (v : Vector Quad). three_row_determinant O x v (back (vector_at later (previous_of h))) (vector_at later (next_of (twin_at later h)))) (flips.diagonals h below e)
      ∙ ap (λ (v : Vector Quad). three_row_determinant O x (third O r n) (back v) (vector_at later (next_of (twin_at later h)))) (at_previous d halves valid set spread later flips h below e)
      ∙ ap (λ (m : ℕ). three_row_determinant O x (third O r n) (back n) (vector_at later (next_of m))) (member_twin d halves valid set spread later flips h below e)
      ∙ ap (λ (v : Vector Quad). three_row_determinant O x (third O r n) (back n) v) (at_next_of_twin d halves valid set spread later flips h below e)
      ∙ ap (λ (v : Vector Quad). three_row_determinant O x (third O v n) (back n) p) (before_twin_is d halves h valid below)
      ∙ ap (λ (v : Vector Quad). three_row_determinant O x (third O (third O (back a) q) v) (back v) p) (next_is d halves h valid below)
      ∙ diagonal_value O L x a p q

  -- so its triple is the opposite one
  pub member_triple : (h : ℕ) → h < length halves → set h ≡ true → full_triple d later h ≡ opposite_triple O (full_triple d halves h)
  member_triple h below e =
      form_by_values O L (full_triple d later h) (opposite_triple O (full_triple d halves h))
      (λ x. sym (value_of_triple d later h x) ∙ member_value h below e x ∙ ap O.neg (value_of_triple d halves h x) ∙ sym (opposite_value O L (full_triple d halves h) x))

  -- ---- all others, at a place where the members' values are zero
  module _ (x : Triple) (zeros : (h : ℕ) → h < length halves → set h ≡ true → hinge_value d halves h x ≡ O.int (pos 0)) where
    -- a side, the one before it, and the one before it afterwards
    from_parts : (k h : ℕ) (v c w : Vector Quad) → vector_at halves k ≡ v → vector_at halves (previous_of k) ≡ c → vector_at later (previous_of (number_after_all halves set k)) ≡ w
        → three_row_determinant O x v (back c) (back w) ≡ hinge_value d halves h x → h < length halves → set h ≡ true
        → three_row_determinant O x (vector_at halves k) (hinge_c d halves k) (hinge_c d later (number_after_all halves set k)) ≡ O.int (pos 0)
    from_parts k h v c w ev ec ew e below member = (λ i. three_row_determinant O x (ev i) (back (ec i)) (back (ew i))) ∙ e ∙ zeros h below member

    -- the old and the new apex of a half-edge make a hinge of value zero
    apexes_flat : (k : ℕ) → k < length halves → set k ≡ false
        → three_row_determinant O x (vector_at halves k) (hinge_c d halves k) (hinge_c d later (number_after_all halves set k)) ≡ O.int (pos 0)
    apexes_flat k below free = elim (cases_Bool (set (previous_of k))) [
      | inl e ↦
          let h = previous_of k in
          let inside = previous_inside d halves k valid below in
          let a = vector_at halves h in
          let p = vector_at halves (previous_of h) in
          let q = vector_at halves (next_of (twin_at halves h)) in
          from_parts k h (third O p a) a (third O (back a) q)
          (ap (vector_at halves) (sym (next_previous k)) ∙ next_is d halves h valid inside)
          (λ i. a)
          (ap (λ (i : ℕ). vector_at later (previous_of i)) (number_following halves set k e) ∙ ap (vector_at later) (previous_next k ∙ sym (next_previous k))
          ∙ at_next d halves valid set spread later flips h inside e ∙ before_twin_is d halves h valid inside)
          (outer_next O L x a p q) inside e
      | inr before ↦ elim (cases_Bool (set (next_of k))) [
        | inl e ↦
            let h = next_of k in
            let inside = next_inside d halves k valid below in
            let a = vector_at halves h in
            let p = vector_at halves (previous_of h) in
            let q = vector_at halves (next_of (twin_at halves h)) in
            from_parts k h p (third O p a) (third O p q)
            (ap (vector_at halves) (sym (previous_next k)))
            (ap (vector_at halves) (sym (next_next k)) ∙ next_is d halves h valid inside)
            (ap (λ (i : ℕ). vector_at later (previous_of i)) (number_preceding halves set k before e) ∙ ap (vector_at later) (previous_next (twin_at halves h))
            ∙ at_twin d halves valid set spread later flips h inside e)
            (outer_previous O L x a p q) inside e
        | inr after ↦
            let same : vector_at later (previous_of (number_after_all halves set k)) ≡ vector_at halves (previous_of k) =
            ap (λ (i : ℕ). vector_at later (previous_of i)) (number_staying halves set k before after)
            ∙ clear_previous_vector d halves valid set spread later flips k below (record { own = free; after = after; before = before }) in
            ap (λ (w : Vector Quad). three_row_determinant O x (vector_at halves k) (hinge_c d halves k) (back w)) same ∙ one_apex O L x (vector_at halves k) (hinge_c d halves k)
      ]
    ]

    -- so it keeps the sign of its value
    pub value_alike : IsFieldNumber d → IsTriangulation d later → (k : ℕ) → k < length halves → set k ≡ false
        → AreAlike O (IsPositive d) (hinge_value d halves k x) (hinge_value d later (number_after_all halves set k) x)
    value_alike field later_valid k below free =
        let Q : IsOrdered (quad_ops d) (IsPositive d) = order_of d field in
        let paired = valid.paired k below in
        let j : ℕ = twin_at halves k in
        let j_free : set j ≡ false = spread.twin k below ∙ free in
        let v = vector_at halves k in
        let w = vector_at halves j in
        let c = hinge_c d halves k in
        let e = hinge_c d halves j in
        let c' = hinge_c d later (number k) in
        let e' = hinge_c d later (number j) in
        let there : (m : ℕ) → m < length halves → number m < length later = λ m inside. still_inside d halves valid set spread later flips (number m) (number_inside d halves valid set spread later flips m inside) in
        let positive : (m : ℕ) → m < length halves → set m ≡ false → IsPositive d (det O (vector_at halves m) (hinge_c d later (number m))) =
        λ m inside f. subst (λ (u : Vector Quad). IsPositive d (det O u (hinge_c d later (number m)))) (flips.vectors m inside f) (apex_left d later (number m) later_valid (there m inside)) in
        let first : AreAlike O (IsPositive d) (by_apexes O x v c e) (by_apexes O x v c' e) =
        apex_exchanged O L Q x v c c' (vector_sum O v e) (apex_left d halves k valid below) (positive k below free) (apexes_flat k below free) in
        let second : AreAlike O (IsPositive d) (by_apexes O x w e c') (by_apexes O x w e' c') =
        apex_exchanged O L Q x w e e' (vector_sum O w c') (apex_left d halves j valid paired.0) (positive j paired.0 j_free) (apexes_flat j paired.0 j_free) in
        let over : by_apexes O x v c' e ≡ by_apexes O x w e c' = apexes_swapped O L x v c' e ∙ ap (λ (u : Vector Quad). by_apexes O x u e c') (sym paired.2) in
        let again : by_apexes O x w e' c' ≡ by_apexes O x v c' e' =
        apexes_swapped O L x w e' c' ∙ ap (λ (u : Vector Quad). by_apexes O x (back u) c' e') paired.2 ∙ ap (λ (u : Vector Quad). by_apexes O x u c' e') (opposite_twice O L v) in
        let after : hinge_value d later (number k) x ≡ by_apexes O x v c' e' =
        value_by_apexes d later (number k) later_valid (there k below) x
        ∙ ap (λ (u : Vector Quad). by_apexes O x u c' (hinge_c d later (twin_at later (number k)))) (flips.vectors k below free)
        ∙ ap (λ (m : ℕ). by_apexes O x v c' (hinge_c d later m)) (flips.twins k below) in
        let before : hinge_value d halves k x ≡ by_apexes O x v c e = value_by_apexes d halves k valid below x in
        let start : AreAlike O (IsPositive d) (hinge_value d halves k x) (by_apexes O x w e c') =
        subst (λ (y : Quad). AreAlike O (IsPositive d) (hinge_value d halves k x) y) over (subst (λ (y : Quad). AreAlike O (IsPositive d) y (by_apexes O x v c' e)) (sym before) first) in
        let end : AreAlike O (IsPositive d) (by_apexes O x w e c') (hinge_value d later (number k) x) = subst (AreAlike O (IsPositive d) (by_apexes O x w e c')) (again ∙ sym after) second in
        alike_after O L Q (hinge_value d halves k x) (by_apexes O x w e c') (hinge_value d later (number k) x) start end
