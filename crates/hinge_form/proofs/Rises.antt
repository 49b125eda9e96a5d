-- The signs of a hinge: where its value isn't positive its quadrilateral is convex, in every ordered ring.
use Rattle.std.proofs.Common.{◌≡◌, [], ◌∷◌, subst, sym, ◌∙◌, ap, inl, inr}
use Rattle.std.specs.Prelude.{pos, ◌⊎◌}
use Rattle.rings.specs.Ring.{Ops, IsRing, var, expr}
use Rattle.rings.specs.Order.{IsOrdered, IsNotNegative, Sign, is_zero, is_positive, is_negative}
use Rattle.rings.specs.Forms.{det, length_by, inner_value, three_row_determinant}
use Rattle.rings.proofs.Solver.{identity}
use Rattle.rings.proofs.Ordered.{square_positive, sum_more, product_not_negative}
use Rattle.rings.proofs.Points.{length_positive}
use Rattle.plane.specs.Vectors.{Vector, opposite_vector}
use Rattle.hinge_form.proofs.Turned.{value_as_sum, flat_value, flat_place}

module _ {R : Type 0} (O : Ops R) (L : IsRing O) {P : R → Type 0} (Q : IsOrdered O P) where
  -- an element is zero, or it isn't
  zero_or_not : (x : R) → (x ≡ O.int (pos 0)) ⊎ ¬ (x ≡ O.int (pos 0))
  zero_or_not x = go (Q.sign x)
    where
      go : Sign O P x → (x ≡ O.int (pos 0)) ⊎ ¬ (x ≡ O.int (pos 0))
      go (is_zero e) = inl e
      go (is_positive p) = inr (λ e. Q.zero_is_not (subst P e p))
      go (is_negative p) = inr (λ e. Q.zero_is_not (subst P (ap O.neg e ∙ identity O L [] (expr.neg (expr.int (pos 0))) (expr.int (pos 0)) tt) p))

  -- det(u, (0, 0)) = 0
  nothing_turned : (u v : Vector R) → v.0 ≡ O.int (pos 0) → v.1 ≡ O.int (pos 0) → det O u v ≡ O.int (pos 0)
  nothing_turned u v e f =
      ap (λ x. O.sub (O.mul u.0 v.1) (O.mul u.1 x)) e ∙ ap (λ x. O.sub (O.mul u.0 x) (O.mul u.1 (O.int (pos 0)))) f
      ∙ identity O L (u.0 ∷ u.1 ∷ []) (expr.sub (expr.mul (var 0) (expr.int (pos 0))) (expr.mul (var 1) (expr.int (pos 0)))) (expr.int (pos 0)) tt

  -- the length of (s, 0) is w·s²
  level_length : (q : R × R × R) (v : Vector R) → v.1 ≡ O.int (pos 0) → O.mul q.0 (O.mul v.0 v.0) ≡ length_by O q v
  level_length q v e =
      identity O L (q.0 ∷ q.1 ∷ q.2 ∷ v.0 ∷ []) (expr.mul (var 0) (expr.mul (var 3) (var 3))) (length_by expr (var 0, var 1, var 2) (var 3, expr.int (pos 0))) tt
      ∙ ap (λ (x : R). length_by O q (v.0, x)) (sym e)

  -- a vector into which another turns has a positive length at a half-plane point
  pub length_turned : (q : R × R × R) (u v : Vector R) → P q.0 → P (inner_value O q) → P (det O u v) → P (length_by O q v)
  length_turned q u v p i turns = go (zero_or_not v.1)
    where
      go : (v.1 ≡ O.int (pos 0)) ⊎ ¬ (v.1 ≡ O.int (pos 0)) → P (length_by O q v)
      go (inr some) = length_positive O L Q q v p i some
      go (inl e) =
          subst P (level_length q v e)
          (Q.product q.0 (O.mul v.0 v.0) p (square_positive O L Q v.0 (λ f. Q.zero_is_not (subst P (nothing_turned u v f e) turns))))

  -- a hinge with A > 0 and det(d, a) > 0 whose value at a half-plane point isn't positive has B > 0
  pub turns_where_not_positive : (q : R × R × R) (a c d : Vector R) → P q.0 → P (inner_value O q) → P (det O a c) → P (det O d a)
      → ¬ (P (three_row_determinant O q a c d)) → P (det O d c)
  turns_where_not_positive q a c d p i first second none = go (Q.sign (det O d c))
    where
      swapped : (u v : Vector R) → det O v u ≡ det O (opposite_vector O u) v
      swapped u v = identity O L (u.0 ∷ u.1 ∷ v.0 ∷ v.1 ∷ []) (det expr (var 2, var 3) (var 0, var 1)) (det expr (opposite_vector expr (var 0, var 1)) (var 2, var 3)) tt

      long_a : P (length_by O q a)
      long_a = length_turned q d a p i second

      long_c : P (length_by O q c)
      long_c = length_turned q a c p i first

      long_d : P (length_by O q d)
      long_d = length_turned q (opposite_vector O a) d p i (subst P (swapped a d) second)

      two : P (O.add (O.mul (det O a c) (length_by O q d)) (O.mul (det O d a) (length_by O q c)))
      two = Q.sum _ _ (Q.product _ _ first long_d) (Q.product _ _ second long_c)

      whole : IsNotNegative O P (O.neg (det O d c)) → P (three_row_determinant O q a c d)
      whole n = subst P (value_as_sum O L q a c d) (sum_more O L Q _ _ two (product_not_negative O L Q _ _ n (inr long_a)))

      go : Sign O P (det O d c) → P (det O d c)
      go (is_zero e) = absurd (none (whole (inl (ap O.neg e ∙ identity O L [] (expr.neg (expr.int (pos 0))) (expr.int (pos 0)) tt))))
      go (is_positive p) = p
      go (is_negative p) = absurd (none (whole (inr p)))

  -- the value where a has no length is positive
  pub flat_positive : (a c d : Vector R) → P (det O a c) → P (det O d a) → P (three_row_determinant O (flat_place O a) a c d)
  flat_positive a c d p q = subst P (sym (flat_value O L a c d)) (Q.product _ _ (Q.product _ _ p q) (Q.sum _ _ p q))
