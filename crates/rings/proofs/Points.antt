-- Points (w, x, y) with w > 0 and w·y > x², in every ordered ring.
use Rattle.std.proofs.Common.{◌≡◌, [], ◌∷◌, subst, sym, ◌∙◌}
use Rattle.std.specs.Prelude.{pos}
use Rattle.rings.specs.Ring.{Ops, IsRing, var, expr, look}
use Rattle.rings.specs.Order.{IsOrdered}
use Rattle.rings.specs.Forms.{length_by, inner_value}
use Rattle.rings.proofs.Solver.{identity}
use Rattle.rings.proofs.Ordered.{factor, turned, square, square_positive, sum_more}
use Rattle.rings.proofs.Forms.{completed_square}

module _ {R : Type 0} (O : Ops R) (L : IsRing O) {P : R → Type 0} (Q : IsOrdered O P) where
  -- w > 0 and w·y > x² give y > 0
  pub third_positive : (w x y : R) → P w → P (O.sub (O.mul w y) (O.mul x x)) → P y
  third_positive w x y p q =
      factor O L Q y w
      (turned O L Q (look w (w ∷ x ∷ y ∷ [])) (expr.add (expr.sub (expr.mul (var 0) (var 2)) (expr.mul (var 1) (var 1))) (expr.mul (var 1) (var 1))) (expr.mul (var 2) (var 0)) tt
      (sum_more O L Q _ _ q (square O L Q x)))
      p

  -- the length of a vector whose second coordinate is not zero is positive
  pub length_positive : (q : R × R × R) (v : R × R) → P q.0 → P (inner_value O q) → ¬ (v.1 ≡ O.int (pos 0)) → P (length_by O q v)
  length_positive q v p i some =
      factor O L Q (length_by O q v) q.0
      (subst P
      (identity O L (O.mul (inner_value O q) (O.mul v.1 v.1) ∷ O.add (O.mul q.0 v.0) (O.mul q.1 v.1) ∷ [])
      (expr.add (var 0) (expr.mul (var 1) (var 1))) (expr.add (expr.mul (var 1) (var 1)) (var 0)) tt
      ∙ sym (completed_square O L q v) ∙ L.mul_comm q.0 (length_by O q v))
      (sum_more O L Q _ _ (Q.product _ _ i (square_positive O L Q v.1 some)) (square O L Q (O.add (O.mul q.0 v.0) (O.mul q.1 v.1)))))
      p
