-- Matrices over the field of positive determinant are a group, by their values.
use Rattle.std.proofs.Common.{ℕ, ◌<◌, arith, refl, sym, subst}
use Rattle.quad_field.specs.FieldNumber.{IsFieldNumber}
use Rattle.plane.specs.Matrices.{FieldMatrix, identity, matrix_times, HaveOneValue, IsInverseOf}
use Rattle.plane.proofs.CallerLemmas.{same_on, product_some, same_times, times_assoc, one_times, times_one}
use Rattle.plane.proofs.CallerLemmas.{same_positive, identity_positive, times_positive, quotient_positive, has_inverse}
use Rattle.returning.specs.Returning.{IsMatrix}
use Rattle.returning.proofs.Groups.{IsGroup}

module _ (d : ℕ) (field : IsFieldNumber d) where
  -- a matrix over the field of positive determinant, with the facts that say so
  abbrev pub Turning : Type 0
  Turning = (a : FieldMatrix) × IsMatrix d a

  abbrev pub Same : Turning → Turning → Type 0
  Same a b = HaveOneValue a.0 b.0

  pub unit_is : IsMatrix d identity
  unit_is = (omega arith, identity_positive d field)

  abbrev pub unit : Turning
  unit = (identity, unit_is)

  pub product_is : (a b : FieldMatrix) → IsMatrix d a → IsMatrix d b → IsMatrix d (matrix_times d a b)
  product_is a b p q = (product_some a.denominator b.denominator p.0 q.0, times_positive d field a b p.1 q.1)

  abbrev pub product : Turning → Turning → Turning
  product a b = (matrix_times d a.0 b.0, product_is a.0 b.0 a.1 b.1)

  pub inverse_of : (a : Turning) → (b : FieldMatrix) × IsMatrix d b × IsInverseOf d b a.0
  inverse_of a = let r = has_inverse d field a.0 a.1.0 a.1.1 in (r.0, (r.1, r.2), r.3)

  abbrev pub inverse : Turning → Turning
  inverse a = let r = inverse_of a in (r.0, r.1)

  pub matrix_group : IsGroup Same product unit inverse
  matrix_group = record {
    same_self = λ a. refl;
    same_back = λ e. sym e;
    same_on = λ {a = a} {b = b} {c = c} e f. same_on a.0 b.0 c.0 b.1.0 e f;
    same_mul = λ {a = a} {b = b} {c = c} {d = e} p q. same_times d a.0 b.0 c.0 e.0 p q;
    assoc = λ a b c. subst (HaveOneValue (matrix_times d (matrix_times d a.0 b.0) c.0)) (times_assoc d a.0 b.0 c.0) refl;
    one-mul = λ a. subst (λ (x : FieldMatrix). HaveOneValue x a.0) (sym (one_times d a.0)) refl;
    mul-one = λ a. subst (λ (x : FieldMatrix). HaveOneValue x a.0) (sym (times_one d a.0)) refl;
    inv-mul = λ a. (inverse_of a).2.0;
    mul-inv = λ a. (inverse_of a).2.1;
  }

  -- what has the value of a matrix of positive determinant is one, where its denominator is above zero
  pub same_matrix : (a b : FieldMatrix) → 0 < a.denominator → IsMatrix d b → HaveOneValue a b → IsMatrix d a
  same_matrix a b some own e = (some, same_positive d field a b some own.0 e own.1)

  -- and so is a quotient of such matrices
  pub quotient_matrix : (x h g k : FieldMatrix) → 0 < x.denominator → IsMatrix d h → IsMatrix d g → IsMatrix d k → HaveOneValue (matrix_times d x k) (matrix_times d h g) → IsMatrix d x
  quotient_matrix x h g k some ph pg pk e = (some, quotient_positive d field x h g k some ph.0 pg.0 pk.0 e ph.1 pg.1 pk.1)
