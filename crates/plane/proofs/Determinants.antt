-- Determinants of matrices over the field: of one value, of products, of quotients and of inverses.
use Rattle.std.proofs.Common.{◌≡◌, ℕ, ◌<◌, arith, sym, ap, ◌∙◌, subst}
use mathlib.Core.Logic.{inl, inr}
use Rattle.std.specs.Prelude.{pos, ◌⊎◌}
use Rattle.rings.specs.Matrices.{matrix_det}
use Rattle.rings.proofs.Matrices.{product_det, multiple_det}
use Rattle.rings.proofs.Ordered.{factor, no_divisors}
use Rattle.rings.proofs.Signs.{not_zero}
use Rattle.quad_field.specs.declared.quad.Quad.{Quad}
use Rattle.quad_field.specs.FieldNumber.{IsFieldNumber}
use Rattle.quad_field.specs.Multiples.{HasWhole}
use Rattle.quad_field.specs.Quads.{quad_ops, IsPositive, IsZero}
use Rattle.quad_field.proofs.CallerLemmas.{quad_ring, order_of, natural_positive, zero_is, is_zero_from, has_whole}
use Rattle.plane.specs.Matrices.{FieldMatrix, identity, matrix_times, HaveOneValue, IsInverseOf}
use Rattle.plane.proofs.MatrixRing as ring
use Rattle.plane.proofs.MatrixGroup as group

module _ (d : ℕ) (field : IsFieldNumber d) where
  -- the determinant of the rows
  abbrev pub det_of : FieldMatrix → Quad
  det_of a = matrix_det (quad_ops d) a.rows

  -- det(a·b) = det(a)·det(b)
  pub times_det : (a b : FieldMatrix) → det_of (matrix_times d a b) ≡ (quad_ops d).mul (det_of a) (det_of b)
  times_det a b = product_det (quad_ops d) (quad_ring d) a.rows b.rows

  -- the determinants of one value: y²·det(a) = x²·det(b) where the denominators are x and y
  pub same_det : (a b : FieldMatrix) → HaveOneValue a b → let x = (quad_ops d).int (pos a.denominator) in let y = (quad_ops d).int (pos b.denominator) in
      (quad_ops d).mul ((quad_ops d).mul y y) (det_of a) ≡ (quad_ops d).mul ((quad_ops d).mul x x) (det_of b)
  same_det a b e =
      sym (multiple_det (quad_ops d) (quad_ring d) ((quad_ops d).int (pos b.denominator)) a.rows)
      ∙ ap (matrix_det (quad_ops d)) (sym (group.scaled_rows d (pos b.denominator) a.rows) ∙ e ∙ group.scaled_rows d (pos a.denominator) b.rows)
      ∙ multiple_det (quad_ops d) (quad_ring d) ((quad_ops d).int (pos a.denominator)) b.rows

  square_some : (n : ℕ) → 0 < n → IsPositive d ((quad_ops d).mul ((quad_ops d).int (pos n)) ((quad_ops d).int (pos n)))
  square_some n some = (order_of d field).product _ _ (natural_positive d n some) (natural_positive d n some)

  -- ---- positive determinants
  -- what has the value of a matrix of positive determinant has one
  pub same_positive : (a b : FieldMatrix) → 0 < a.denominator → 0 < b.denominator → HaveOneValue a b → IsPositive d (det_of b) → IsPositive d (det_of a)
  same_positive a b pa pb e p =
      let x : Quad = (quad_ops d).int (pos a.denominator) in
      let y : Quad = (quad_ops d).int (pos b.denominator) in
      factor (quad_ops d) (quad_ring d) (order_of d field) (det_of a) ((quad_ops d).mul y y)
      (subst (IsPositive d) (sym (same_det a b e) ∙ (quad_ring d).mul_comm ((quad_ops d).mul y y) (det_of a))
      ((order_of d field).product ((quad_ops d).mul x x) (det_of b) (square_some a.denominator pa) p))
      (square_some b.denominator pb)

  pub identity_positive : IsPositive d (det_of identity)
  identity_positive = subst (IsPositive d) (sym (ring.unit_det (quad_ops d) (quad_ring d))) (natural_positive d 1 (omega arith))

  -- a product of such matrices has one
  pub times_positive : (a b : FieldMatrix) → IsPositive d (det_of a) → IsPositive d (det_of b) → IsPositive d (det_of (matrix_times d a b))
  times_positive a b p q = subst (IsPositive d) (sym (times_det a b)) ((order_of d field).product (det_of a) (det_of b) p q)

  -- and so has the first factor of a product, where the product and the other factor have one
  pub first_positive : (a b : FieldMatrix) → IsPositive d (det_of (matrix_times d a b)) → IsPositive d (det_of b) → IsPositive d (det_of a)
  first_positive a b p q = factor (quad_ops d) (quad_ring d) (order_of d field) (det_of a) (det_of b) (subst (IsPositive d) (times_det a b) p) q

  -- and an inverse
  pub inverse_positive : (a b : FieldMatrix) → 0 < a.denominator → 0 < b.denominator → IsInverseOf d a b → IsPositive d (det_of b) → IsPositive d (det_of a)
  inverse_positive a b pa pb inverse q =
      first_positive a b
      (same_positive (matrix_times d a b) identity (group.product_some a.denominator b.denominator pa pb) (omega arith) inverse.0 identity_positive) q

  -- and a quotient
  pub quotient_positive : (x h g k : FieldMatrix) → 0 < x.denominator → 0 < h.denominator → 0 < g.denominator → 0 < k.denominator
      → HaveOneValue (matrix_times d x k) (matrix_times d h g)
      → IsPositive d (det_of h) → IsPositive d (det_of g) → IsPositive d (det_of k) → IsPositive d (det_of x)
  quotient_positive x h g k px ph pg pk e dh dg dk =
      first_positive x k
      (same_positive (matrix_times d x k) (matrix_times d h g) (group.product_some x.denominator k.denominator px pk) (group.product_some h.denominator g.denominator ph pg)
      e (times_positive h g dh dg)) dk

  -- a matrix of positive determinant has an inverse, of positive determinant
  pub has_inverse : (a : FieldMatrix) → 0 < a.denominator → IsPositive d (det_of a) → (b : FieldMatrix) × (0 < b.denominator) × IsPositive d (det_of b) × IsInverseOf d b a
  has_inverse a some p =
      let whole : HasWhole d (det_of a) = has_whole d field (det_of a) p in
      let b : FieldMatrix = record { rows = ring.scaled_adjugate (quad_ops d) ((quad_ops d).int (pos a.denominator)) whole.multiplier a.rows; denominator = whole.whole } in
      let inverse : IsInverseOf d b a = group.adjugate_inverse d a whole.multiplier whole.whole whole.multiple in
      (b, whole.positive, inverse_positive b a whole.positive some inverse p, inverse)

  -- ---- determinants other than zero
  positive_not_zero : (x : Quad) → IsPositive d x → ¬ (IsZero x)
  positive_not_zero x p z = not_zero (quad_ops d) (quad_ring d) (order_of d field) x p (zero_is d x z)

  -- a product is zero only where a factor is
  factors : (x y : Quad) → IsZero ((quad_ops d).mul x y) → IsZero x ⊎ IsZero y
  factors x y z = parts (no_divisors (quad_ops d) (quad_ring d) (order_of d field) x y (zero_is d ((quad_ops d).mul x y) z))
    where
      parts : (x ≡ (quad_ops d).int (pos 0)) ⊎ (y ≡ (quad_ops d).int (pos 0)) → IsZero x ⊎ IsZero y
      parts (inl e) = inl (is_zero_from d x e)
      parts (inr e) = inr (is_zero_from d y e)

  -- 0·y = 0 and x·0 = 0
  zero_first : (x y : Quad) → IsZero x → IsZero ((quad_ops d).mul x y)
  zero_first x y z = is_zero_from d ((quad_ops d).mul x y) (ap (λ (u : Quad). (quad_ops d).mul u y) (zero_is d x z) ∙ ring.zero_product (quad_ops d) (quad_ring d) y)

  zero_second : (x y : Quad) → IsZero y → IsZero ((quad_ops d).mul x y)
  zero_second x y z = subst IsZero ((quad_ring d).mul_comm y x) (zero_first y x z)

  product_not_zero : (x y : Quad) → ¬ (IsZero x) → ¬ (IsZero y) → ¬ (IsZero ((quad_ops d).mul x y))
  product_not_zero x y p q z = one_of (factors x y z)
    where
      one_of : IsZero x ⊎ IsZero y → ⊥
      one_of (inl e) = p e
      one_of (inr e) = q e

  -- what has the value of a matrix whose determinant isn't zero is one
  pub same_not_zero : (a b : FieldMatrix) → 0 < a.denominator → HaveOneValue a b → ¬ (IsZero (det_of b)) → ¬ (IsZero (det_of a))
  same_not_zero a b some e p z =
      let x : Quad = (quad_ops d).int (pos a.denominator) in
      let y : Quad = (quad_ops d).int (pos b.denominator) in
      product_not_zero ((quad_ops d).mul x x) (det_of b) (positive_not_zero ((quad_ops d).mul x x) (square_some a.denominator some)) p
      (subst IsZero (same_det a b e) (zero_second ((quad_ops d).mul y y) (det_of a) z))

  pub identity_not_zero : ¬ (IsZero (det_of identity))
  identity_not_zero = positive_not_zero (det_of identity) identity_positive

  -- so is a product of such matrices
  pub times_not_zero : (a b : FieldMatrix) → ¬ (IsZero (det_of a)) → ¬ (IsZero (det_of b)) → ¬ (IsZero (det_of (matrix_times d a b)))
  times_not_zero a b p q z = product_not_zero (det_of a) (det_of b) p q (subst IsZero (times_det a b) z)

  -- and each factor of a product that is one
  pub first_not_zero : (a b : FieldMatrix) → ¬ (IsZero (det_of (matrix_times d a b))) → ¬ (IsZero (det_of a))
  first_not_zero a b p z = p (subst IsZero (sym (times_det a b)) (zero_first (det_of a) (det_of b) z))

  pub second_not_zero : (a b : FieldMatrix) → ¬ (IsZero (det_of (matrix_times d a b))) → ¬ (IsZero (det_of b))
  second_not_zero a b p z = p (subst IsZero (sym (times_det a b)) (zero_second (det_of a) (det_of b) z))

  -- and an inverse
  pub inverse_not_zero : (a b : FieldMatrix) → 0 < a.denominator → 0 < b.denominator → IsInverseOf d a b → ¬ (IsZero (det_of a))
  inverse_not_zero a b pa pb inverse =
      first_not_zero a b
      (same_not_zero (matrix_times d a b) identity (group.product_some a.denominator b.denominator pa pb) inverse.0 identity_not_zero)

  -- and a quotient
  pub quotient_not_zero : (x h g k : FieldMatrix) → 0 < x.denominator → 0 < k.denominator → HaveOneValue (matrix_times d x k) (matrix_times d h g)
      → ¬ (IsZero (det_of h)) → ¬ (IsZero (det_of g)) → ¬ (IsZero (det_of x))
  quotient_not_zero x h g k px pk e dh dg =
      first_not_zero x k
      (same_not_zero (matrix_times d x k) (matrix_times d h g) (group.product_some x.denominator k.denominator px pk) e (times_not_zero h g dh dg))

  -- a positive determinant isn't zero
  pub positive_some : (a : FieldMatrix) → IsPositive d (det_of a) → ¬ (IsZero (det_of a))
  positive_some a p = positive_not_zero (det_of a) p
