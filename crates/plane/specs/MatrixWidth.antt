-- When the product and the inverse of matrices over the field are wide.
use Rattle.std.specs.Prelude.{ℕ, ◌*◌, pos, neg_ℤ, ◌<ℤ◌}
use Rattle.rings.specs.Matrices.{Matrix, matrix_det, matrix_product}
use Rattle.quad_field.specs.Width.{Term, product, negation, scaling, conjugate, term_ops, value_of, StepsFit, FitsI128}
use Rattle.plane.specs.Vectors.{matrix_term}
use Rattle.plane.specs.Matrices.{FieldMatrix}

-- no step of an entry's tree lies outside i128
abbrev pub EntriesFit : ℕ → Matrix Term → Type 0
EntriesFit d n = StepsFit d n.0 × StepsFit d n.1 × StepsFit d n.2 × StepsFit d n.3

-- no step of the product's four entries, nor the product of the denominators, lies outside i128
abbrev pub ProductFits : ℕ → FieldMatrix → FieldMatrix → Type 0
ProductFits d a b =
    EntriesFit d (matrix_product term_ops (matrix_term a.rows) (matrix_term b.rows)) × FitsI128 (pos (a.denominator * b.denominator))

-- the conjugate κ of the determinant δ
abbrev pub determinant_conjugate : FieldMatrix → Term
determinant_conjugate a = conjugate (matrix_det term_ops (matrix_term a.rows))

-- the norm δ·κ
abbrev pub determinant_norm : FieldMatrix → Term
determinant_norm a = product (matrix_det term_ops (matrix_term a.rows)) (determinant_conjugate a)

-- (den·n3)·κ, -((den·n1)·κ), -((den·n2)·κ), (den·n0)·κ
abbrev pub multiples_by : FieldMatrix → Term → Matrix Term
multiples_by a κ =
    let n = matrix_term a.rows in
    let den = pos a.denominator in
    (product (scaling den n.3) κ, negation (product (scaling den n.1) κ), negation (product (scaling den n.2) κ), product (scaling den n.0) κ)

-- -n
abbrev pub negations : Matrix Term → Matrix Term
negations n = (negation n.0, negation n.1, negation n.2, negation n.3)

-- no step of the norm δ·κ, nor of the inverse's four entries over it, lies outside i128, nor, where the norm is negative,
-- the negative of the norm or of an entry
pub record InverseFits (d : ℕ) (a : FieldMatrix) : Type 0 where
  pub norm : StepsFit d (determinant_norm a)
  pub entries : EntriesFit d (multiples_by a (determinant_conjugate a))
  pub negatives : let n = value_of d (determinant_norm a) in
      n.a <ℤ pos 0 → EntriesFit d (negations (multiples_by a (determinant_conjugate a))) × FitsI128 (neg_ℤ n.a)
