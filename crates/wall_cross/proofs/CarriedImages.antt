-- Images compose, have inverses, and are images by every writing of their matrix.
use Rattle.std.proofs.Common.{◌≡◌, ℕ, zero, suc, ◌<◌, ◌*◌, List, [], ◌∷◌, length, sym, ap, ◌∙◌, subst, arith}
use Rattle.std.specs.Prelude.{pos}
use Rattle.rings.specs.Ring.{Ops, IsRing, var, expr}
use Rattle.rings.specs.Vectors.{Vector, multiple_vector}
use Rattle.rings.specs.Matrices.{Matrix, mapped, matrix_det, matrix_product, adjugate, multiple_matrix}
use Rattle.rings.proofs.Solver.{identity}
use Rattle.rings.proofs.Factors.{cancel_vector}
use Rattle.rings.proofs.Matrices.{composed, inverted, both_times}
use Rattle.quad_field.specs.declared.quad.Quad.{Quad}
use Rattle.quad_field.specs.FieldNumber.{IsFieldNumber}
use Rattle.quad_field.specs.Quads.{quad_ops}
use Rattle.quad_field.proofs.CallerLemmas.{quad_ring, order_of, has_whole, natural_positive}
use Rattle.tri_core.specs.declared.half.Half.{Half}
use Rattle.tri_core.specs.HalfEdges.{vector_at, twin_at, next_of}
use Rattle.tri_core.specs.Triangulation.{IsTriangulation}
use Rattle.tri_core.specs.Images.{AreInverse, IsImage, identity_matrix}
use Rattle.tri_core.proofs.CallerLemmas.{next_inside, inverse_swapped, inverse_composed, forth_inside, back_inside, forth_back, image_turns_left, translation_vectors, translation_from}
use Rattle.wall_cross.proofs.Pulled.{undone}

-- a product of numbers above zero
some_product : (b c : ℕ) → 0 < b → 0 < c → 0 < b * c
some_product (suc b) (suc c) p q = omega arith
some_product zero c p q = absurd (omega arith)
some_product (suc b) zero p q = absurd (omega arith)

-- ---- composition: first n/c, then m/b
pub image_composed : (d : ℕ) (n m : Matrix Quad) (c b : ℕ) (one two three : List Half) (forth back next_forth next_back : ℕ → ℕ)
    → IsImage d n c one two forth back → IsImage d m b two three next_forth next_back
    → IsImage d (matrix_product (quad_ops d) m n) (b * c) one three (λ k. next_forth (forth k)) (λ k. back (next_back k))
image_composed d n m c b one two three forth back next_forth next_back first second = record {
  denominator = some_product b c second.denominator first.denominator;
  count = second.count ∙ first.count;
  each_once = inverse_composed (length one) forth back next_forth next_back first.each_once (subst (λ (l : ℕ). AreInverse l next_forth next_back) first.count second.each_once);
  next = λ k below. ap next_forth (first.next k below) ∙ second.next (forth k) (inside k below);
  twin = λ k below. ap next_forth (first.twin k below) ∙ second.twin (forth k) (inside k below);
  vectors = λ k below.
      let O = quad_ops d in
      ap (λ (x : Quad). multiple_vector O x (vector_at three (next_forth (forth k)))) ((quad_ring d).int-mul (pos b) (pos c))
      ∙ composed O (quad_ring d) n m (O.int (pos c)) (O.int (pos b)) (vector_at one k) (vector_at two (forth k)) (vector_at three (next_forth (forth k))) (first.vectors k below)
      (second.vectors (forth k) (inside k below));
}
  where
    inside : (k : ℕ) → k < length one → forth k < length two
    inside k below = forth_inside d n c one two forth back first k below

-- ---- the way back
module _ (d : ℕ) (n : Matrix Quad) (m : ℕ) (from to : List Half) (forth back : ℕ → ℕ) (valid : IsTriangulation d from) (image : IsImage d n m from to forth back) where
  here : (k : ℕ) → k < length to → back k < length from
  here k below = back_inside d n m from to forth back image k below

  there : (k : ℕ) → k < length to → forth (back k) ≡ k
  there k below = forth_back d n m from to forth back image k below

  -- it is a bijection, and keeps next and twin as well
  pub back_once : AreInverse (length to) back forth
  back_once = subst (λ (l : ℕ). AreInverse l back forth) (sym image.count) (inverse_swapped (length from) forth back image.each_once)

  pub back_next : (k : ℕ) → k < length to → back (next_of k) ≡ next_of (back k)
  back_next k below =
      let j = back k in
      ap (λ (i : ℕ). back (next_of i)) (sym (there k below)) ∙ ap back (sym (image.next j (here k below)))
      ∙ image.each_once.back_forth (next_of j) (next_inside d from j valid (here k below))

  pub back_twin : (k : ℕ) → k < length to → back (twin_at to k) ≡ twin_at from (back k)
  back_twin k below =
      let j = back k in
      ap (λ (i : ℕ). back (twin_at to i)) (sym (there k below)) ∙ ap back (sym (image.twin j (here k below))) ∙ image.each_once.back_forth (twin_at from j) (valid.paired j (here k below)).0

  back_vector : (k : ℕ) → k < length to → multiple_vector (quad_ops d) ((quad_ops d).int (pos m)) (vector_at to k) ≡ mapped (quad_ops d) n (vector_at from (back k))
  back_vector k below =
      ap (λ (i : ℕ). multiple_vector (quad_ops d) ((quad_ops d).int (pos m)) (vector_at to i)) (sym (there k below)) ∙ image.vectors (back k) (here k below)

  -- the inverse: with det(n)·w = M it is w·m·adj(n) over M, and it undoes n/m
  pub image_inverse : IsFieldNumber d → IsTriangulation d to → (i : Matrix Quad) × (c : ℕ) × IsImage d i c to from back forth
      × ((v : Vector Quad) → mapped (quad_ops d) i (mapped (quad_ops d) n v) ≡ multiple_vector (quad_ops d) ((quad_ops d).int (pos (c * m))) v)
  image_inverse field valid_to =
      let O = quad_ops d in
      let C : Quad = O.int (pos m) in
      let h = has_whole d field (matrix_det O n) (image_turns_left d n m from to forth back image valid field valid_to) in (
        multiple_matrix O h.multiplier (multiple_matrix O C (adjugate O n)),
        h.whole,
        record {
          denominator = h.positive;
          count = sym image.count;
          each_once = back_once;
          next = back_next;
          twin = back_twin;
          vectors = λ k below.
              both_times O (quad_ring d) (multiple_matrix O C (adjugate O n)) (matrix_det O n) h.multiplier (O.int (pos h.whole)) (vector_at to k) (vector_at from (back k)) h.multiple
              (inverted O (quad_ring d) n C (vector_at from (back k)) (vector_at to k) (back_vector k below));
        },
        λ v. undone O (quad_ring d) n C h.multiplier v ∙ ap (λ (x : Quad). multiple_vector O (O.mul x C) v) h.multiple
            ∙ ap (λ (x : Quad). multiple_vector O x v) (sym ((quad_ring d).int-mul (pos h.whole) (pos m))),
      )

-- a translation back
pub translation_back : (d : ℕ) (from to : List Half) (forth back : ℕ → ℕ) → IsTriangulation d from → IsImage d (identity_matrix (quad_ops d)) 1 from to forth back
    → IsImage d (identity_matrix (quad_ops d)) 1 to from back forth
translation_back d from to forth back valid image =
    let n = identity_matrix (quad_ops d) in
    translation_from d to from back forth (sym image.count) (back_once d n 1 from to forth back valid image) (back_next d n 1 from to forth back valid image) (back_twin d n 1 from to forth back valid image)
    (λ k below.
    sym (translation_vectors d from to forth back image (back k) (back_inside d n 1 from to forth back image k below)) ∙ ap (vector_at to) (forth_back d n 1 from to forth back image k below))

-- an image of a translation, and a translation of an image
pub translation_then_image : (d : ℕ) (n : Matrix Quad) (m : ℕ) (one two three : List Half) (forth back next_forth next_back : ℕ → ℕ)
    → IsImage d (identity_matrix (quad_ops d)) 1 one two forth back → IsImage d n m two three next_forth next_back
    → IsImage d n m one three (λ k. next_forth (forth k)) (λ k. back (next_back k))
translation_then_image d n m one two three forth back next_forth next_back first second =
    let both = image_composed d (identity_matrix (quad_ops d)) n 1 m one two three forth back next_forth next_back first second in
    record {
      denominator = second.denominator;
      count = both.count;
      each_once = both.each_once;
      next = both.next;
      twin = both.twin;
      vectors = λ k below.
          second.vectors (forth k) (forth_inside d (identity_matrix (quad_ops d)) 1 one two forth back first k below)
          ∙ ap (mapped (quad_ops d) n) (translation_vectors d one two forth back first k below);
    }

pub image_then_translation : (d : ℕ) (n : Matrix Quad) (m : ℕ) (one two three : List Half) (forth back next_forth next_back : ℕ → ℕ)
    → IsImage d n m one two forth back → IsImage d (identity_matrix (quad_ops d)) 1 two three next_forth next_back
    → IsImage d n m one three (λ k. next_forth (forth k)) (λ k. back (next_back k))
image_then_translation d n m one two three forth back next_forth next_back first second =
    let both = image_composed d n (identity_matrix (quad_ops d)) m 1 one two three forth back next_forth next_back first second in
    record {
      denominator = first.denominator;
      count = both.count;
      each_once = both.each_once;
      next = both.next;
      twin = both.twin;
      vectors = λ k below.
          ap (multiple_vector (quad_ops d) ((quad_ops d).int (pos m))) (translation_vectors d two three next_forth next_back second (forth k) (forth_inside d n m one two forth back first k below))
          ∙ first.vectors k below;
    }

-- ---- another writing of the matrix
module _ {R : Type 0} (O : Ops R) (L : IsRing O) where
  -- m·(j·v) = j·(m·v)
  multiples_swapped : (m j : R) (v : Vector R) → multiple_vector O m (multiple_vector O j v) ≡ multiple_vector O j (multiple_vector O m v)
  multiples_swapped m j v i = (one v.0 i, one v.1 i)
    where
      one : (t : R) → O.mul m (O.mul j t) ≡ O.mul j (O.mul m t)
      one t = identity O L (m ∷ j ∷ t ∷ []) (expr.mul (var 0) (expr.mul (var 1) (var 2))) (expr.mul (var 1) (expr.mul (var 0) (var 2))) tt

  -- (c·n)·v = c·(n·v)
  multiple_mapped : (c : R) (n : Matrix R) (v : Vector R) → mapped O (multiple_matrix O c n) v ≡ multiple_vector O c (mapped O n v)
  multiple_mapped c n v i = (one n.0 n.1 i, one n.2 n.3 i)
    where
      one : (p q : R) → O.add (O.mul (O.mul c p) v.0) (O.mul (O.mul c q) v.1) ≡ O.mul c (O.add (O.mul p v.0) (O.mul q v.1))
      one p q =
          identity O L (c ∷ p ∷ q ∷ v.0 ∷ v.1 ∷ [])
          (expr.add (expr.mul (expr.mul (var 0) (var 1)) (var 3)) (expr.mul (expr.mul (var 0) (var 2)) (var 4)))
          (expr.mul (var 0) (expr.add (expr.mul (var 1) (var 3)) (expr.mul (var 2) (var 4)))) tt

-- k/j = n/m where m·k = j·n
pub image_rewritten : (d : ℕ) → IsFieldNumber d → (n k : Matrix Quad) (m j : ℕ) (from to : List Half) (forth back : ℕ → ℕ) → 0 < j
    → multiple_matrix (quad_ops d) ((quad_ops d).int (pos m)) k ≡ multiple_matrix (quad_ops d) ((quad_ops d).int (pos j)) n → IsImage d n m from to forth back → IsImage d k j from to forth back
image_rewritten d field n k m j from to forth back some same image = record {
  denominator = some;
  count = image.count;
  each_once = image.each_once;
  next = image.next;
  twin = image.twin;
  vectors = λ h below.
      let O = quad_ops d in
      let M : Quad = O.int (pos m) in
      let J : Quad = O.int (pos j) in
      let u = vector_at from h in
      let x = vector_at to (forth h) in
      cancel_vector O (quad_ring d) (order_of d field) M (multiple_vector O J x) (mapped O k u) (natural_positive d m image.denominator)
      (multiples_swapped O (quad_ring d) M J x ∙ ap (multiple_vector O J) (image.vectors h below) ∙ sym (multiple_mapped O (quad_ring d) J n u)
      ∙ ap (λ (y : Matrix Quad). mapped O y u) (sym same) ∙ multiple_mapped O (quad_ring d) M k u);
}
