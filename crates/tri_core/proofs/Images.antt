-- Images: bijections, the half-edge before, the frame, and the determinant of the matrix.
use Rattle.std.proofs.Common.{◌≡◌, ℕ, ◌<◌, [], ◌∷◌, List, length, refl, sym, ap, ◌∙◌, subst, arith}
use Rattle.std.specs.Prelude.{pos}
use Rattle.rings.specs.Ring.{var, expr}
use Rattle.rings.specs.Vectors.{Vector, multiple_vector}
use Rattle.rings.specs.Matrices.{Matrix, mapped, matrix_det}
use Rattle.rings.proofs.Solver.{identity}
use Rattle.rings.proofs.Matrices.{matrix_positive}
use Rattle.quad_field.specs.declared.quad.Quad.{Quad}
use Rattle.quad_field.specs.FieldNumber.{IsFieldNumber}
use Rattle.quad_field.specs.Quads.{quad_ops, IsPositive}
use Rattle.quad_field.proofs.CallerLemmas.{quad_ring, order_of, natural_positive}
use Rattle.tri_core.specs.declared.half.Half.{Half}
use Rattle.tri_core.specs.HalfEdges.{vector_at, twin_at, next_of, previous_of}
use Rattle.tri_core.specs.Triangulation.{IsTriangulation}
use Rattle.tri_core.specs.Images.{AreInverse, IsImage, identity_matrix, AreTranslationEqual, CarriesFrame}
use Rattle.tri_core.proofs.Quadrilaterals.{vectors_equal}
use Rattle.tri_core.proofs.Triangles.{triple_at, next_next, next_inside}

-- ---- bijections
pub inverse_swapped : (n : ℕ) (forth back : ℕ → ℕ) → AreInverse n forth back → AreInverse n back forth
inverse_swapped n forth back b = record { forth_inside = b.back_inside; back_inside = b.forth_inside; back_forth = b.forth_back; forth_back = b.back_forth }

pub inverse_composed : (n : ℕ) (forth back next_forth next_back : ℕ → ℕ) → AreInverse n forth back → AreInverse n next_forth next_back
    → AreInverse n (λ k. next_forth (forth k)) (λ k. back (next_back k))
inverse_composed n forth back next_forth next_back a b = record {
  forth_inside = λ k below. b.forth_inside (forth k) (a.forth_inside k below);
  back_inside = λ k below. a.back_inside (next_back k) (b.back_inside k below);
  back_forth = λ k below. ap back (b.back_forth (forth k) (a.forth_inside k below)) ∙ a.back_forth k below;
  forth_back = λ k below. ap next_forth (a.forth_back (next_back k) (b.back_inside k below)) ∙ b.forth_back k below;
}

-- ---- one image
module _ (d : ℕ) (n : Matrix Quad) (m : ℕ) (from to : List Half) (forth back : ℕ → ℕ) (image : IsImage d n m from to forth back) where
  pub forth_inside : (k : ℕ) → k < length from → forth k < length to
  forth_inside k below = subst (λ (l : ℕ). forth k < l) (sym image.count) (image.each_once.forth_inside k below)

  pub back_inside : (k : ℕ) → k < length to → back k < length from
  back_inside k below = image.each_once.back_inside k (subst (λ (l : ℕ). k < l) image.count below)

  pub forth_back : (k : ℕ) → k < length to → forth (back k) ≡ k
  forth_back k below = image.each_once.forth_back k (subst (λ (l : ℕ). k < l) image.count below)

  -- no two half-edges go to one
  pub forth_injective : (j k : ℕ) → j < length from → k < length from → forth j ≡ forth k → j ≡ k
  forth_injective j k a b e = sym (image.each_once.back_forth j a) ∙ ap back e ∙ image.each_once.back_forth k b

  module _ (valid : IsTriangulation d from) where
    -- the half-edge before is kept
    pub previous_kept : (k : ℕ) → k < length from → forth (previous_of k) ≡ previous_of (forth k)
    previous_kept k below =
        ap forth (sym (next_next k)) ∙ image.next (next_of k) (next_inside d from k valid below) ∙ ap next_of (image.next k below) ∙ next_next (forth k)

    -- the frame of a half-edge is carried to that of its image
    pub frame_carried : (k : ℕ) → k < length from → CarriesFrame d n m from k to (forth k)
    frame_carried k below = (
      image.vectors k below,
      ap (λ (i : ℕ). multiple_vector (quad_ops d) ((quad_ops d).int (pos m)) (vector_at to i)) (sym (image.next k below)) ∙ image.vectors (next_of k) (next_inside d from k valid below),
    )

    -- the matrix of an image that is a triangulation has a positive determinant
    pub image_turns_left : IsFieldNumber d → IsTriangulation d to → IsPositive d (matrix_det (quad_ops d) n)
    image_turns_left field valid_to =
        let inside : 0 < length from = let some = valid.count.1 in omega arith in
        let frame = frame_carried 0 inside in
        matrix_positive (quad_ops d) (quad_ring d) (order_of d field) n ((quad_ops d).int (pos m)) (vector_at from 0) (vector_at from (next_of 0)) (vector_at to (forth 0)) (vector_at to (next_of (forth 0)))
        (natural_positive d m image.denominator) frame.0 frame.1 (triple_at d from 0 valid inside).turns (triple_at d to (forth 0) valid_to (forth_inside 0 inside)).turns

-- ---- the identity
-- 1·v, both ways
pub one_vector : (d : ℕ) (v : Vector Quad) → multiple_vector (quad_ops d) ((quad_ops d).int (pos 1)) v ≡ v
one_vector d v =
    let one = λ (x : Quad). identity (quad_ops d) (quad_ring d) (x ∷ []) (expr.mul (expr.int (pos 1)) (var 0)) (var 0) tt in
    vectors_equal (quad_ops d) (quad_ring d) _ _ (one v.0) (one v.1)

pub one_mapped : (d : ℕ) (v : Vector Quad) → mapped (quad_ops d) (identity_matrix (quad_ops d)) v ≡ v
one_mapped d v =
    let O = quad_ops d in
    let image = mapped expr (identity_matrix expr) (var 0, var 1) in
    vectors_equal O (quad_ring d) _ _ (identity O (quad_ring d) (v.0 ∷ v.1 ∷ []) image.0 (var 0) tt) (identity O (quad_ring d) (v.0 ∷ v.1 ∷ []) image.1 (var 1) tt)

-- an image by the identity keeps every vector
pub translation_vectors : (d : ℕ) (from to : List Half) (forth back : ℕ → ℕ) → IsImage d (identity_matrix (quad_ops d)) 1 from to forth back
    → (k : ℕ) → k < length from → vector_at to (forth k) ≡ vector_at from k
translation_vectors d from to forth back image k below = sym (one_vector d (vector_at to (forth k))) ∙ image.vectors k below ∙ one_mapped d (vector_at from k)

-- and a bijection that keeps next, twin and every vector is one
pub translation_from : (d : ℕ) (from to : List Half) (forth back : ℕ → ℕ) → length to ≡ length from → AreInverse (length from) forth back
    → ((k : ℕ) → k < length from → forth (next_of k) ≡ next_of (forth k)) → ((k : ℕ) → k < length from → forth (twin_at from k) ≡ twin_at to (forth k))
    → ((k : ℕ) → k < length from → vector_at to (forth k) ≡ vector_at from k) → IsImage d (identity_matrix (quad_ops d)) 1 from to forth back
translation_from d from to forth back count each_once next twin vectors = record {
  denominator = omega arith;
  count = count;
  each_once = each_once;
  next = next;
  twin = twin;
  vectors = λ k below. one_vector d (vector_at to (forth k)) ∙ vectors k below ∙ sym (one_mapped d (vector_at from k));
}

-- a triangulation is translation-equal to itself
pub translation_same : (d : ℕ) (halves : List Half) → AreTranslationEqual d halves halves
translation_same d halves = (
  λ k. k,
  λ k. k,
  translation_from d halves halves (λ k. k) (λ k. k) refl
      (record { forth_inside = λ k below. below; back_inside = λ k below. below; back_forth = λ k below. refl; forth_back = λ k below. refl })
      (λ k below. refl) (λ k below. refl) (λ k below. refl),
)
