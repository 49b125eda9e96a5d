-- The image of a triangulation is a triangulation.
use Rattle.std.proofs.Common.{◌≡◌, ℕ, ◌*◌, ◌%◌, ◌<◌, ◌≤◌, Bool, true, List, length, sym, ap, ◌∙◌, subst, arith, inl, inr, [], ◌∷◌}
use Rattle.std.specs.Prelude.{pos}
use Rattle.std.proofs.lemmas.Bool.{cases_eq}
use Rattle.rings.specs.Ring.{Ops, IsRing, var, expr}
use Rattle.rings.specs.Order.{IsOrdered}
use Rattle.rings.specs.Vectors.{Vector, zero_vector, vector_sum, opposite_vector, multiple_vector}
use Rattle.rings.specs.Matrices.{Matrix, mapped, matrix_det}
use Rattle.rings.proofs.Solver.{identity}
use Rattle.rings.proofs.Factors.{cancel_vector, cancel_zero_vector}
use Rattle.rings.proofs.Matrices.{opposite_carried, sum_carried, turn_carried}
use Rattle.quad_field.specs.declared.quad.Quad.{Quad}
use Rattle.quad_field.specs.FieldNumber.{IsFieldNumber}
use Rattle.quad_field.specs.Quads.{quad_ops, IsPositive}
use Rattle.quad_field.proofs.CallerLemmas.{quad_ring, order_of, natural_positive}
use Rattle.tri_core.specs.declared.half.Half.{Half}
use Rattle.tri_core.specs.HalfEdges.{vector_at, twin_at, next_of, previous_of, triangle_of}
use Rattle.tri_core.specs.Triangulation.{IsTriangulation, IsTriangle, IsClosedUnderTwins, IsPaired}
use Rattle.tri_core.specs.Images.{IsImage}
use Rattle.tri_core.proofs.CallerLemmas.{IsTripleAt, triple_at, IsTripleOf, triple_of, next_inside, previous_inside, side_next, joined_from, forth_inside, back_inside, forth_back, previous_kept, frame_carried}

module _ {R : Type 0} (O : Ops R) (L : IsRing O) {P : R → Type 0} (Q : IsOrdered O P) where
  -- c·x = n·0 with c > 0 gives x = 0
  none_carried : (n : Matrix R) (c : R) (x u : Vector R) → P c → multiple_vector O c x ≡ mapped O n u → u ≡ zero_vector O → x ≡ zero_vector O
  none_carried n c x u p e z = cancel_zero_vector O L Q c x p (e ∙ ap (mapped O n) z ∙ λ i. (one n.0 n.1 i, one n.2 n.3 i))
    where
      one : (a b : R) → O.add (O.mul a (O.int (pos 0))) (O.mul b (O.int (pos 0))) ≡ O.int (pos 0)
      one a b = identity O L (a ∷ b ∷ []) (expr.add (expr.mul (var 0) (expr.int (pos 0))) (expr.mul (var 1) (expr.int (pos 0)))) (expr.int (pos 0)) tt

module _ (d : ℕ) (field : IsFieldNumber d) (n : Matrix Quad) (m : ℕ) (from to : List Half) (forth back : ℕ → ℕ) (valid : IsTriangulation d from) (turns : IsPositive d (matrix_det (quad_ops d) n))
    (image : IsImage d n m from to forth back) where
  abbrev c : Quad
  c = (quad_ops d).int (pos m)

  some_c : IsPositive d ((quad_ops d).int (pos m))
  some_c = natural_positive d m image.denominator

  here : (k : ℕ) → k < length to → back k < length from
  here k below = back_inside d n m from to forth back image k below

  there : (k : ℕ) → k < length to → forth (back k) ≡ k
  there k below = forth_back d n m from to forth back image k below

  next_in : (k : ℕ) → k < length from → next_of k < length from
  next_in k below = next_inside d from k valid below

  carried_next : (k : ℕ) → k < length from → multiple_vector (quad_ops d) ((quad_ops d).int (pos m)) (vector_at to (next_of (forth k))) ≡ mapped (quad_ops d) n (vector_at from (next_of k))
  carried_next k below = (frame_carried d n m from to forth back image valid k below).1

  carried_previous : (k : ℕ) → k < length from → multiple_vector (quad_ops d) ((quad_ops d).int (pos m)) (vector_at to (previous_of (forth k))) ≡ mapped (quad_ops d) n (vector_at from (previous_of k))
  carried_previous k below =
      ap (λ (i : ℕ). multiple_vector (quad_ops d) c (vector_at to i)) (sym (previous_kept d n m from to forth back image valid k below)) ∙ image.vectors (previous_of k) (previous_inside d from k valid below)

  -- the triangle at a half-edge of the image
  triple_to : (k : ℕ) → k < length from → IsTripleAt d to (forth k)
  triple_to k below =
      let O = quad_ops d in
      let own = triple_at d from k valid below in
      let u = vector_at from k in
      let v = vector_at from (next_of k) in
      let w = vector_at from (previous_of k) in
      let x = vector_at to (forth k) in
      let y = vector_at to (next_of (forth k)) in
      let z = vector_at to (previous_of (forth k)) in
      record {
        closed =
            none_carried O (quad_ring d) (order_of d field) n c (vector_sum O (vector_sum O x y) z) (vector_sum O (vector_sum O u v) w) some_c
            (sum_carried O (quad_ring d) n c (vector_sum O u v) w (vector_sum O x y) z (sum_carried O (quad_ring d) n c u v x y (image.vectors k below) (carried_next k below)) (carried_previous k below)) own.closed;
        turns = turn_carried O (quad_ring d) (order_of d field) n c u v x y some_c turns (image.vectors k below) (carried_next k below) own.turns;
      }

  triples : (t : ℕ) → IsTriangle to t → IsTripleOf d to t
  triples t inside = triple_of d to t (subst (IsTripleAt d to) (there (3 * t) inside) (triple_to (back (3 * t)) (here (3 * t) inside)))

  paired_to : (i : ℕ) → i < length to → IsPaired d to i
  paired_to i below =
      let O = quad_ops d in
      let k = back i in
      let at = here i below in
      let own = valid.paired k at in
      let twin : twin_at to i ≡ forth (twin_at from k) = ap (twin_at to) (sym (there i below)) ∙ sym (image.twin k at) in (
        subst (λ (m : ℕ). m < length to) (sym twin) (forth_inside d n m from to forth back image (twin_at from k) own.0),
        ap (twin_at to) twin ∙ sym (image.twin (twin_at from k) own.0) ∙ ap forth own.1 ∙ there i below,
        cancel_vector O (quad_ring d) (order_of d field) c (vector_at to (twin_at to i)) (opposite_vector O (vector_at to i)) some_c
            (ap (λ (m : ℕ). multiple_vector O c (vector_at to m)) twin ∙ image.vectors (twin_at from k) own.0 ∙ ap (mapped O n) own.2
            ∙ sym (opposite_carried O (quad_ring d) n c (vector_at from k) (vector_at to i) (ap (λ (m : ℕ). multiple_vector O c (vector_at to m)) (sym (there i below)) ∙ image.vectors k at))),
      )

  -- half-edges of one triangle go to one triangle
  triangle_next : (k : ℕ) → k < length from → triangle_of (forth (next_of k)) ≡ triangle_of (forth k)
  triangle_next k below = ap triangle_of (image.next k below) ∙ side_next (forth k)

  triangle_first : (k : ℕ) → k < length from → triangle_of (forth (3 * triangle_of k)) ≡ triangle_of (forth k)
  triangle_first k below =
      let f = 3 * triangle_of k in
      let inside : f < length from = omega arith in
      elim (cases_eq k f) [
        | inl e ↦ ap (λ (i : ℕ). triangle_of (forth i)) (sym e)
        | inr a ↦ elim (cases_eq k (next_of f)) [
          | inl e ↦ sym (ap (λ (i : ℕ). triangle_of (forth i)) e ∙ triangle_next f inside)
          | inr b ↦
              let e : k ≡ next_of (next_of f) = omega arith in
              sym (ap (λ (i : ℕ). triangle_of (forth i)) e ∙ triangle_next (next_of f) (next_in f inside) ∙ triangle_next f inside)
        ]
      ]

  module _ (set : ℕ → Bool) (start : set 0 ≡ true) (closed : IsClosedUnderTwins to set) where
    -- the triangles whose images are in the set
    abbrev before : ℕ → Bool
    before t = set (triangle_of (forth (3 * t)))

    closed_before : IsClosedUnderTwins from before
    closed_before h below is =
        let own = valid.paired h below in
        ap set (triangle_first (twin_at from h) own.0) ∙ ap (λ (i : ℕ). set (triangle_of i)) (image.twin h below)
        ∙ closed (forth h) (forth_inside d n m from to forth back image h below) (ap set (sym (triangle_first h below)) ∙ is)

    all_joined : (t : ℕ) → IsTriangle to t → set t ≡ true
    all_joined t inside =
        let some : 0 < length to = omega arith in
        let k = back 0 in
        let j = back (3 * t) in
        let at = here 0 some in
        let jn = here (3 * t) inside in
        let k_in : 3 * triangle_of k < length from = omega arith in
        let j_in : 3 * triangle_of j < length from = omega arith in
        let first : before (triangle_of k) ≡ true = ap set (triangle_first k at ∙ ap triangle_of (there 0 some)) ∙ start in
        let last : before (triangle_of j) ≡ true = joined_from d from valid before closed_before (triangle_of k) k_in first (triangle_of j) j_in in
        let is : triangle_of (3 * t) ≡ t = omega arith in
        ap set (sym (triangle_first j jn ∙ ap triangle_of (there (3 * t) inside) ∙ is)) ∙ last

  pub image_valid : IsTriangulation d to
  image_valid = record {
    count = (
      ap (λ (l : ℕ). l % 3) image.count ∙ valid.count.0,
      subst (λ (l : ℕ). 6 ≤ l) (sym image.count) valid.count.1,
      subst (λ (l : ℕ). l ≤ 768) (sym image.count) valid.count.2,
    );
    closed = λ t inside. (triples t inside).closed;
    turns = λ t inside. (triples t inside).turns;
    paired = paired_to;
    joined = λ t inside set start closed. all_joined set start closed t inside;
  }
