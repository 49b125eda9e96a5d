-- The hinges of an image: one positive factor for all half-edges and all places.
use Rattle.std.proofs.Common.{◌≡◌, ℕ, ◌<◌, List, length, sym, ap, ◌∙◌, subst}
use Rattle.std.specs.Prelude.{pos}
use Rattle.rings.specs.Forms.{value_at}
use Rattle.rings.specs.Vectors.{multiple_vector}
use Rattle.rings.specs.Matrices.{Matrix, mapped, matrix_det}
use Rattle.rings.specs.Lines.{multiple}
use Rattle.rings.proofs.Matrices.{opposite_carried}
use Rattle.quad_field.specs.declared.quad.Quad.{Quad}
use Rattle.quad_field.specs.FieldNumber.{IsFieldNumber}
use Rattle.quad_field.specs.Quads.{quad_ops, IsPositive}
use Rattle.quad_field.proofs.CallerLemmas.{quad_ring, order_of, natural_positive}
use Rattle.tri_core.specs.declared.half.Half.{Half}
use Rattle.tri_core.specs.HalfEdges.{vector_at, twin_at, next_of, previous_of}
use Rattle.tri_core.specs.Triangulation.{IsTriangulation}
use Rattle.tri_core.specs.Images.{IsImage}
use Rattle.tri_core.proofs.CallerLemmas.{next_inside, previous_inside, twin_inside, forth_inside, previous_kept, image_turns_left}
use Rattle.hinge_form.specs.Hinges.{Triple, hinge_a, hinge_c, hinge_d, hinge_value, full_triple, IsStrictAt}
use Rattle.hinge_form.proofs.CallerLemmas.{value_of_triple}
use Rattle.wall_cross.specs.Pulled.{pulled, pushed}
use Rattle.wall_cross.proofs.Pulled.{hinge_carried, value_carried, positive_forth, positive_back}
use Rattle.wall_cross.proofs.CarriedEdges.{each_half}

-- c⁴
abbrev pub fourth_power : ℕ → Quad → Quad
fourth_power d c = (quad_ops d).mul ((quad_ops d).mul c c) ((quad_ops d).mul c c)

-- m⁴ of a whole number
abbrev pub fourth_of : ℕ → ℕ → Quad
fourth_of d m = fourth_power d ((quad_ops d).int (pos m))

module _ (d : ℕ) (field : IsFieldNumber d) (n : Matrix Quad) (m : ℕ) (from to : List Half) (forth back : ℕ → ℕ) (valid : IsTriangulation d from) (valid_to : IsTriangulation d to)
    (image : IsImage d n m from to forth back) where
  abbrev c : Quad
  c = (quad_ops d).int (pos m)

  -- ---- the vectors of a hinge are carried
  c_carried : (k : ℕ) → k < length from → multiple_vector (quad_ops d) ((quad_ops d).int (pos m)) (hinge_c d to (forth k)) ≡ mapped (quad_ops d) n (hinge_c d from k)
  c_carried k below =
      opposite_carried (quad_ops d) (quad_ring d) n c (vector_at from (previous_of k)) (vector_at to (previous_of (forth k)))
      (ap (λ (j : ℕ). multiple_vector (quad_ops d) c (vector_at to j)) (sym (previous_kept d n m from to forth back image valid k below)) ∙ image.vectors (previous_of k) (previous_inside d from k valid below))

  d_carried : (k : ℕ) → k < length from → multiple_vector (quad_ops d) ((quad_ops d).int (pos m)) (hinge_d to (forth k)) ≡ mapped (quad_ops d) n (hinge_d from k)
  d_carried k below =
      let g = twin_at from k in
      let inside = twin_inside d from k valid below in
      ap (λ (j : ℕ). multiple_vector (quad_ops d) c (vector_at to (next_of j))) (sym (image.twin k below))
      ∙ ap (λ (j : ℕ). multiple_vector (quad_ops d) c (vector_at to j)) (sym (image.next g inside)) ∙ image.vectors (next_of g) (next_inside d from g valid inside)

  -- m⁴ times the form of a half-edge's image is det(n) times its pushed form
  pub triple_carried : (k : ℕ) → k < length from → multiple (quad_ops d) (fourth_of d m) (full_triple d to (forth k)) ≡ multiple (quad_ops d) (matrix_det (quad_ops d) n) (pushed (quad_ops d) n (full_triple d from k))
  triple_carried k below =
      hinge_carried (quad_ops d) (quad_ring d) n c (hinge_a from k) (hinge_c d from k) (hinge_d from k) (hinge_a to (forth k)) (hinge_c d to (forth k)) (hinge_d to (forth k))
      (image.vectors k below) (c_carried k below) (d_carried k below)

  pub turns : IsPositive d (matrix_det (quad_ops d) n)
  turns = image_turns_left d n m from to forth back image valid field valid_to

  pub fourth_positive : IsPositive d (fourth_of d m)
  fourth_positive =
      let Q = order_of d field in
      let p = natural_positive d m image.denominator in
      Q.product _ _ (Q.product c c p p) (Q.product c c p p)

  -- ---- values
  pub hinge_value_carried : (k : ℕ) → k < length from → (q : Triple)
      → (quad_ops d).mul (fourth_of d m) (hinge_value d to (forth k) q) ≡ (quad_ops d).mul (matrix_det (quad_ops d) n) (hinge_value d from k (pulled (quad_ops d) n q))
  hinge_value_carried k below q =
      ap ((quad_ops d).mul (fourth_of d m)) (value_of_triple d to (forth k) q)
      ∙ value_carried (quad_ops d) (quad_ring d) (order_of d field) n turns (full_triple d from) (full_triple d to) (length from) forth back image.each_once (fourth_of d m) (matrix_det (quad_ops d) n) fourth_positive turns triple_carried k below q
      ∙ ap ((quad_ops d).mul (matrix_det (quad_ops d) n)) (sym (value_of_triple d from k (pulled (quad_ops d) n q)))

  -- so the signs agree
  pub positive_to : (k : ℕ) → k < length from → (q : Triple) → IsPositive d (hinge_value d from k (pulled (quad_ops d) n q)) → IsPositive d (hinge_value d to (forth k) q)
  positive_to k below q p =
      subst (IsPositive d) (sym (value_of_triple d to (forth k) q))
      (positive_forth (quad_ops d) (quad_ring d) (order_of d field) n turns (full_triple d from) (full_triple d to) (length from) forth back image.each_once (fourth_of d m) (matrix_det (quad_ops d) n) fourth_positive turns triple_carried k below q
      (subst (IsPositive d) (value_of_triple d from k (pulled (quad_ops d) n q)) p))

  pub positive_from : (k : ℕ) → k < length from → (q : Triple) → IsPositive d (hinge_value d to (forth k) q) → IsPositive d (hinge_value d from k (pulled (quad_ops d) n q))
  positive_from k below q p =
      subst (IsPositive d) (sym (value_of_triple d from k (pulled (quad_ops d) n q)))
      (positive_back (quad_ops d) (quad_ring d) (order_of d field) n turns (full_triple d from) (full_triple d to) (length from) forth back image.each_once (fourth_of d m) (matrix_det (quad_ops d) n) fourth_positive turns triple_carried k below q
      (subst (IsPositive d) (value_of_triple d to (forth k) q) p))

  -- ---- strictness at a point
  pub strict_forth : (q : Triple) → IsStrictAt d from (pulled (quad_ops d) n q) → IsStrictAt d to q
  strict_forth q strict e edge =
      let inside = subst (λ (l : ℕ). e < l) image.count edge.0 in
      let k = back e in
      let at = image.each_once.back_inside e inside in
      let r = pulled (quad_ops d) n q in
      let all : IsPositive d (hinge_value d from k r) =
      subst (IsPositive d) (sym (value_of_triple d from k r))
      (each_half d from valid (λ (t : Triple). IsPositive d (value_at (quad_ops d) t r)) (λ h own. subst (IsPositive d) (value_of_triple d from h r) (strict h own)) k at) in
      subst (λ (i : ℕ). IsPositive d (hinge_value d to i q)) (image.each_once.forth_back e inside) (positive_to k at q all)

  pub strict_back : (q : Triple) → IsStrictAt d to q → IsStrictAt d from (pulled (quad_ops d) n q)
  strict_back q strict h edge =
      positive_from h edge.0 q
      (subst (IsPositive d) (sym (value_of_triple d to (forth h) q))
      (each_half d to valid_to (λ (t : Triple). IsPositive d (value_at (quad_ops d) t q)) (λ e own. subst (IsPositive d) (value_of_triple d to e q) (strict e own)) (forth h)
      (forth_inside d n m from to forth back image h edge.0)))
