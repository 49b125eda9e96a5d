-- Returning derivatives have determinant one.
use Rattle.std.proofs.Common.{◌≡◌, ℕ, zero, suc, ◌*◌, ◌<◌, arith, refl, sym, ap, ◌∙◌, subst, List, length}
use Rattle.std.specs.Prelude.{pos}
use mathlib.Core.Logic.{∥∥₁_elim}
use Rattle.rings.specs.Ring.{Ops}
use Rattle.rings.specs.Vectors.{multiple_vector}
use Rattle.rings.specs.Matrices.{Matrix, matrix_det}
use Rattle.rings.proofs.Factors.{cancel_positive}
use Rattle.rings.proofs.Matrices.{det_carried}
use Rattle.quad_field.specs.declared.quad.Quad.{Quad}
use Rattle.quad_field.specs.FieldNumber.{IsFieldNumber}
use Rattle.quad_field.specs.Quads.{quad_ops, IsPositive}
use Rattle.quad_field.proofs.CallerLemmas.{quad_set, quad_ring, order_of}
use Rattle.plane.specs.Matrices.{FieldMatrix}
use Rattle.plane.proofs.CallerLemmas.{unit_det}
use Rattle.tri_core.specs.declared.half.Half.{Half}
use Rattle.tri_core.specs.HalfEdges.{vector_at, next_of}
use Rattle.tri_core.specs.SeveralFlips.{is_among}
use Rattle.tri_core.specs.Triangulation.{IsTriangulation}
use Rattle.tri_core.specs.Images.{identity_matrix, IsImageBy, AreTranslationEqual}
use Rattle.tri_core.proofs.CallerLemmas.{next_inside, triple_at}
use Rattle.wall_cross.specs.Crossings.{LiesBehind, LeadsIn, IsReached}
use Rattle.wall_cross.proofs.CallerLemmas.{wall_spread, crossing_valid}
use Rattle.wall_cross.proofs.CarriedCallers.{reached_valid}
use Rattle.returning.specs.Returning.{IsReturning, HasDeterminantOne}
use Rattle.returning.specs.Areas.{total, corner, six_areas}
use Rattle.returning.proofs.Sums.{total_same, total_times, total_permuted, total_positive}
use Rattle.returning.proofs.FlippedAreas.{flips_keep}

module _ (d : ℕ) (field : IsFieldNumber d) where
  abbrev O : Ops Quad
  O = quad_ops d

  -- m²
  abbrev square : ℕ → Quad
  square m = O.mul (O.int (pos m)) (O.int (pos m))

  -- m²·area(n/m·T) = det(n)·area(T)
  pub area_image : (n : Matrix Quad) (m : ℕ) (s t : List Half) → IsTriangulation d s → IsImageBy d n m s t → O.mul (square m) (six_areas d t) ≡ O.mul (matrix_det O n) (six_areas d s)
  area_image n m s t valid (forth, back, i) =
      ap (λ k. O.mul (square m) (total O k (corner d t))) i.count
      ∙ ap (O.mul (square m)) (sym (total_permuted O (quad_ring d) (length s) forth back (corner d t) i.each_once))
      ∙ total_times O (quad_ring d) (square m) (length s) (λ k. corner d t (forth k))
      ∙ total_same O (quad_ring d) (length s) (λ k. O.mul (square m) (corner d t (forth k))) (λ k. O.mul (matrix_det O n) (corner d s k)) each
      ∙ sym (total_times O (quad_ring d) (matrix_det O n) (length s) (corner d s))
    where
      each : (k : ℕ) → k < length s → O.mul (square m) (corner d t (forth k)) ≡ O.mul (matrix_det O n) (corner d s k)
      each k below =
          det_carried O (quad_ring d) n (O.int (pos m)) (vector_at s k) (vector_at s (next_of k)) (vector_at t (forth k)) (vector_at t (next_of (forth k)))
          (i.vectors k below)
          (ap (λ j. multiple_vector O (O.int (pos m)) (vector_at t j)) (sym (i.next k below)) ∙ i.vectors (next_of k) (next_inside d s k valid below))

  -- the area is positive
  area_positive : (s : List Half) → IsTriangulation d s → IsPositive d (six_areas d s)
  area_positive s valid = go (length s) refl
    where
      go : (n : ℕ) → length s ≡ n → IsPositive d (total O (length s) (corner d s))
      go zero e = let six = valid.count.1 in absurd (omega (arith, six, e))
      go (suc n) e =
          subst (λ k. IsPositive d (total O k (corner d s))) (sym e)
          (total_positive O (quad_ring d) (order_of d field) n (corner d s) (λ k p. (triple_at d s k valid (subst (λ l. k < l) (sym e) p)).turns))

  -- a matrix that takes a triangulation to one of the same area has determinant one
  one_of_same_area : (n : Matrix Quad) (m : ℕ) (s t : List Half) → IsTriangulation d s → IsImageBy d n m s t → six_areas d t ≡ six_areas d s → matrix_det O n ≡ O.int (pos (m * m))
  one_of_same_area n m s t valid i e =
      cancel_positive O (quad_ring d) (order_of d field) (six_areas d s) (matrix_det O n) (O.int (pos (m * m))) (area_positive s valid)
      ((quad_ring d).mul_comm (six_areas d s) (matrix_det O n) ∙ sym (area_image n m s t valid i) ∙ ap (O.mul (square m)) e
      ∙ (quad_ring d).mul_comm (square m) (six_areas d s) ∙ ap (O.mul (six_areas d s)) (sym ((quad_ring d).int-mul (pos m) (pos m))))

  -- a translation keeps the area
  translation_keeps : (s t : List Half) → IsTriangulation d s → AreTranslationEqual d s t → six_areas d t ≡ six_areas d s
  translation_keeps s t valid i =
      once (six_areas d t) ∙ area_image (identity_matrix O) 1 s t valid i ∙ unit (six_areas d s)
    where
      once : (x : Quad) → x ≡ O.mul (square 1) x
      once x = sym (ap (λ y. O.mul y x) ((quad_ring d).one-mul (O.int (pos 1))) ∙ (quad_ring d).one-mul x)

      unit : (x : Quad) → O.mul (matrix_det O (identity_matrix O)) x ≡ x
      unit x = ap (λ y. O.mul y x) (unit_det O (quad_ring d)) ∙ (quad_ring d).one-mul x

  -- a crossing keeps the area
  crossing_keeps : (s t : List Half) → IsTriangulation d s → LiesBehind d s t → six_areas d t ≡ six_areas d s
  crossing_keeps s t valid behind =
      let edges : List ℕ = behind.1 in
      let wall = behind.2.0 in
      let flipped : List Half = behind.2.1.0 in
      let flips = behind.2.1.1 in
      translation_keeps flipped t (crossing_valid d field s valid behind.0 edges wall flipped flips) behind.2.1.2
      ∙ flips_keep d s valid (is_among s edges (length edges)) (wall_spread d field s valid behind.0 edges wall) flipped flips field

  -- and so does a path
  reached_keeps : (base : List Half) → IsTriangulation d base → (n : ℕ) (end : List Half) → LeadsIn d base n end → six_areas d end ≡ six_areas d base
  reached_keeps base valid zero end same = ap (six_areas d) same
  reached_keeps base valid (suc n) end path =
      let before : IsTriangulation d path.0 = reached_valid d field base valid n path.0 path.1 in
      crossing_keeps path.0 end before path.2 ∙ reached_keeps base valid n path.0 path.1

  -- a returning derivative has determinant one
  pub returning_one : (base : List Half) → IsTriangulation d base → (a : FieldMatrix) → IsReturning d base a → HasDeterminantOne d a
  returning_one base valid a (own, merely) =
      ∥∥₁_elim merely (quad_set (matrix_det O a.rows) (O.int (pos (a.denominator * a.denominator)))) (λ (r : (end : List Half) × IsReached d base end × IsImageBy d a.rows a.denominator base end).
      one_of_same_area a.rows a.denominator base r.0 valid r.2 (reached_keeps base valid r.1.0 r.0 r.1.1))
