-- What the steps of an inverse give, and when they fit.
use Rattle.std.proofs.Common.{Result, Ok, Err, ◌≡◌, ℕ, zero, suc, ◌<◌, arith, refl, sym, ap, ◌∙◌, subst}
use mathlib.Core.Logic.{inl, inr}
use Rattle.std.specs.Result.{IsErr}
use Rattle.std.specs.Prelude.{IsOk, ℤ, pos, negsuc, neg_ℤ, ◌<ℤ◌, ◌⊎◌}
use Rattle.std.proofs.lemmas.Int.{ints}
use Rattle.rings.specs.Matrices.{Matrix, matrix_det}
use Rattle.rings.proofs.Ordered.{no_divisors}
use Rattle.quad_field.specs.declared.quad.Quad.{Quad}
use Rattle.quad_field.specs.FieldNumber.{IsFieldNumber}
use Rattle.quad_field.specs.Quads.{quad, quad_ops, scaled, conjugate_of, IsZero}
use Rattle.quad_field.specs.Width.{Term, number, value_of, StepsFit, FitsI128}
use Rattle.quad_field.proofs.CallerLemmas.{quad_ring, order_of, scaled_is, is_zero_from}
use Rattle.plane.specs.Vectors.{matrix_term}
use Rattle.plane.specs.Matrices.{FieldMatrix, IsReducedTo, IsInverseOf}
use Rattle.plane.specs.MatrixWidth.{EntriesFit, InverseFits, determinant_conjugate, determinant_norm, multiples_by, negations}
use Rattle.plane.proofs.LowestTerms.{reduced_value}
use Rattle.plane.proofs.MatrixRing as ring
use Rattle.plane.proofs.MatrixGroup as group

-- no result is both
pub not_both : {T E : Type 0} (r : Result T E) → IsErr r → ¬ (IsOk r)
not_both (Ok x) err ok = cc
not_both (Err e) err ok = cc

-- the entries of the inverse of a over the norm, for the conjugate k of the determinant
abbrev pub over_norm : ℕ → FieldMatrix → Quad → Matrix Quad
over_norm d a k =
    let O = quad_ops d in
    let den = pos a.denominator in
    let n = a.rows in
    (O.mul (scaled den n.3) k, O.neg (O.mul (scaled den n.1) k), O.neg (O.mul (scaled den n.2) k), O.mul (scaled den n.0) k)

-- they are the adjugate times the denominator and k
over_norm_is : (d : ℕ) (a : FieldMatrix) (k : Quad) → over_norm d a k ≡ ring.scaled_adjugate (quad_ops d) ((quad_ops d).int (pos a.denominator)) k a.rows
over_norm_is d a k = ring.matrix_is (entry a.rows.3) (ap (quad_ops d).neg (entry a.rows.1)) (ap (quad_ops d).neg (entry a.rows.2)) (entry a.rows.0)
  where
    entry : (x : Quad) → (quad_ops d).mul (scaled (pos a.denominator) x) k ≡ (quad_ops d).mul ((quad_ops d).mul ((quad_ops d).int (pos a.denominator)) x) k
    entry x = ap (λ (y : Quad). (quad_ops d).mul y k) (scaled_is d (pos a.denominator) x)

-- ---- the norm
-- a negative that is zero
zero_negative : (n : ℤ) → neg_ℤ n ≡ pos 0 → n ≡ pos 0
zero_negative (pos zero) e = refl
zero_negative (pos (suc n)) e = cc
zero_negative (negsuc n) e = cc

conjugate_zero : (x : Quad) → IsZero (conjugate_of x) → IsZero x
conjugate_zero x z = (z.0, zero_negative x.b z.1)

-- the norm of a number other than zero isn't zero
pub norm_not_zero : (d : ℕ) (x k : Quad) (w : ℤ) → IsFieldNumber d → ¬ (IsZero x) → k ≡ conjugate_of x → quad w (pos 0) ≡ (quad_ops d).mul x k → ¬ (w ≡ pos 0)
norm_not_zero d x k w field some is e z = one_of (no_divisors (quad_ops d) (quad_ring d) (order_of d field) x k (sym e ∙ ap (λ (n : ℤ). quad n (pos 0)) z))
  where
    one_of : (x ≡ (quad_ops d).int (pos 0)) ⊎ (k ≡ (quad_ops d).int (pos 0)) → ⊥
    one_of (inl f) = some (is_zero_from d x f)
    one_of (inr f) = some (conjugate_zero x (is_zero_from d (conjugate_of x) (sym is ∙ f)))

-- ---- values
-- numbers over a norm that isn't zero, taken over its absolute value
abbrev pub IsOverPositive : ℕ → Matrix Quad → ℤ → Matrix Quad → ℤ → Type 0
IsOverPositive d m w n den =
    (pos 0 <ℤ w → (n ≡ m) × (den ≡ w)) × (w <ℤ pos 0 → (n ≡ ring.opposite_matrix (quad_ops d) m) × (den ≡ neg_ℤ w))

-- they are an inverse, and so is what they are reduced to
pub inverse_value : (d : ℕ) (a c : FieldMatrix) (k : Quad) (w den : ℤ) (m n : Matrix Quad) → 0 < a.denominator → ¬ (w ≡ pos 0)
    → quad w (pos 0) ≡ (quad_ops d).mul (matrix_det (quad_ops d) a.rows) k → m ≡ over_norm d a k → IsOverPositive d m w n den → IsReducedTo n den c → IsInverseOf d c a
inverse_value d a c k (pos zero) den m n some other norm entries over reduced = absurd (other refl)
inverse_value d a c k (pos (suc w)) den m n some other norm entries over reduced =
    let raw : FieldMatrix = record { rows = ring.scaled_adjugate (quad_ops d) ((quad_ops d).int (pos a.denominator)) k a.rows; denominator = suc w } in
    let is = over.0 (omega (arith, ints)) in
    group.inverse_same d raw a c (omega arith) some (reduced_value n den raw c (is.0 ∙ entries ∙ over_norm_is d a k) is.1 reduced)
    (group.adjugate_inverse d a k (suc w) (sym norm))
inverse_value d a c k (negsuc w) den m n some other norm entries over reduced =
    let l : Quad = (quad_ops d).neg k in
    let raw : FieldMatrix = record { rows = ring.scaled_adjugate (quad_ops d) ((quad_ops d).int (pos a.denominator)) l a.rows; denominator = suc w } in
    let is = over.1 (omega (arith, ints)) in
    group.inverse_same d raw a c (omega arith) some
    (reduced_value n den raw c
    (is.0 ∙ ap (ring.opposite_matrix (quad_ops d)) (entries ∙ over_norm_is d a k) ∙ ring.adjugate_opposite (quad_ops d) (quad_ring d) a.rows ((quad_ops d).int (pos a.denominator)) k)
    is.1 reduced)
    (group.adjugate_inverse d a l (suc w)
    (ring.negative_factor (quad_ops d) (quad_ring d) (matrix_det (quad_ops d) a.rows) k ∙ ap (quad_ops d).neg (sym norm)))

-- ---- width
module _ (d : ℕ) (a : FieldMatrix) where
  -- multiples by a tree fit where those by its value do
  to_tree : (t : Term) → StepsFit d t → EntriesFit d (multiples_by a (number (value_of d t))) → EntriesFit d (multiples_by a t)
  to_tree t f h = ((h.0.0, f, h.0.2), ((h.1.0.0, f, h.1.0.2), h.1.1), ((h.2.0.0, f, h.2.0.2), h.2.1), (h.3.0, f, h.3.2))

  from_tree : (t : Term) → EntriesFit d (multiples_by a t) → EntriesFit d (multiples_by a (number (value_of d t)))
  from_tree t h = ((h.0.0, tt, h.0.2), ((h.1.0.0, tt, h.1.0.2), h.1.1), ((h.2.0.0, tt, h.2.0.2), h.2.1), (h.3.0, tt, h.3.2))

  -- what the entries' trees evaluate to
  abbrev values : Matrix Term → Matrix Quad
  values u = (value_of d u.0, value_of d u.1, value_of d u.2, value_of d u.3)

  -- negatives of trees fit where those of their values do
  to_negations : (u : Matrix Term) → EntriesFit d u → EntriesFit d (negations (matrix_term (values u))) → EntriesFit d (negations u)
  to_negations u f h = ((f.0, h.0.1), (f.1, h.1.1), (f.2, h.2.1), (f.3, h.3.1))

  from_negations : (u : Matrix Term) → EntriesFit d (negations u) → EntriesFit d (negations (matrix_term (values u)))
  from_negations u h = ((tt, h.0.1), (tt, h.1.1), (tt, h.2.1), (tt, h.3.1))

  module _ (k : Quad) (is : k ≡ conjugate_of (matrix_det (quad_ops d) a.rows)) where
    -- where the inverse fits, so do its entries
    pub entries_fit : InverseFits d a → EntriesFit d (multiples_by a (number k))
    entries_fit fits = subst (λ (x : Quad). EntriesFit d (multiples_by a (number x))) (sym is) (from_tree (determinant_conjugate a) fits.entries)

    module _ (w : ℤ) (m : Matrix Quad) (norm : quad w (pos 0) ≡ (quad_ops d).mul (matrix_det (quad_ops d) a.rows) k) (entries : m ≡ over_norm d a k) where
      norm_is : w ≡ (value_of d (determinant_norm a)).a
      norm_is = ap (λ (x : Quad). x.a) (norm ∙ ap ((quad_ops d).mul (matrix_det (quad_ops d) a.rows)) is)

      values_are : m ≡ values (multiples_by a (determinant_conjugate a))
      values_are = entries ∙ ap (over_norm d a) is

      -- and the negatives, where the norm is negative
      pub negatives_fit : InverseFits d a → w <ℤ pos 0 → EntriesFit d (negations (matrix_term m)) × FitsI128 (neg_ℤ w)
      negatives_fit fits below =
          let n = fits.negatives (subst (λ (n : ℤ). n <ℤ pos 0) norm_is below) in (
            subst (λ (x : Matrix Quad). EntriesFit d (negations (matrix_term x))) (sym values_are) (from_negations (multiples_by a (determinant_conjugate a)) n.0),
            subst (λ (n : ℤ). FitsI128 (neg_ℤ n)) (sym norm_is) n.1,
          )

      -- and where all of these fit, the inverse does
      pub inverse_fits : StepsFit d (determinant_norm a) → EntriesFit d (multiples_by a (number k))
          → (w <ℤ pos 0 → EntriesFit d (negations (matrix_term m)) × FitsI128 (neg_ℤ w)) → InverseFits d a
      inverse_fits steps each negative =
          let all : EntriesFit d (multiples_by a (determinant_conjugate a)) =
          to_tree (determinant_conjugate a) steps.1 (subst (λ (x : Quad). EntriesFit d (multiples_by a (number x))) is each) in
          record {
            norm = steps;
            entries = all;
            negatives = λ below.
                let n = negative (subst (λ (n : ℤ). n <ℤ pos 0) (sym norm_is) below) in (
                  to_negations (multiples_by a (determinant_conjugate a)) all (subst (λ (x : Matrix Quad). EntriesFit d (negations (matrix_term x))) values_are n.0),
                  subst (λ (n : ℤ). FitsI128 (neg_ℤ n)) norm_is n.1,
                );
          }
