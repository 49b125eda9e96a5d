-- The vectors of a triangle, and of the two triangles of a quadrilateral.
use Rattle.std.proofs.Common.{◌≡◌, ℕ, [], ◌∷◌, arith, sym, ◌∙◌, ap, subst}
use Rattle.std.specs.Prelude.{ℤ, pos, neg_ℤ}
use Rattle.std.proofs.lemmas.Int.{ints}
use Rattle.rings.specs.Ring.{Ops, IsRing, Expr, var, expr}
use Rattle.rings.specs.Vectors.{zero_vector}
use Rattle.rings.proofs.Solver.{identity}
use Rattle.rings.proofs.Turning.{opposite_twice, det_closed_second, det_zero_left}
use Rattle.quad_field.specs.declared.quad.Quad.{Quad}
use Rattle.quad_field.specs.Quads.{quad, quad_ops, IsPositive}
use Rattle.quad_field.proofs.CallerLemmas.{quad_ring, zero_not_positive}
use Rattle.plane.specs.Vectors.{Vector, det, vector_sum, opposite_vector}

-- the vectors of the first variables
abbrev u' : Expr × Expr
u' = (var 0, var 1)

abbrev v' : Expr × Expr
v' = (var 2, var 3)

module _ {R : Type 0} (O : Ops R) (L : IsRing O) where
  -- two vectors with equal coordinates
  pub vectors_equal : (u v : Vector R) → u.0 ≡ v.0 → u.1 ≡ v.1 → u ≡ v
  vectors_equal u v e f i = (e i, f i)

  -- u + v + w = v + w + u
  sum_turned : (u v w : Vector R) → vector_sum O (vector_sum O v w) u ≡ vector_sum O (vector_sum O u v) w
  sum_turned u v w = vectors_equal _ _ (one u.0 v.0 w.0) (one u.1 v.1 w.1)
    where
      one : (a b c : R) → O.add (O.add b c) a ≡ O.add (O.add a b) c
      one a b c = identity O L (a ∷ b ∷ c ∷ []) (expr.add (expr.add (var 1) (var 2)) (var 0)) (expr.add (expr.add (var 0) (var 1)) (var 2)) tt

  -- where u + v + w = 0, w = -(u + v)
  third_of_closed : (u v w : Vector R) → vector_sum O (vector_sum O u v) w ≡ zero_vector O → w ≡ opposite_vector O (vector_sum O u v)
  third_of_closed u v w closed =
      vectors_equal w (vector_sum O (opposite_vector O (vector_sum O u v)) (vector_sum O (vector_sum O u v) w)) (back u.0 v.0 w.0) (back u.1 v.1 w.1)
      ∙ ap (λ (s : Vector R). vector_sum O (opposite_vector O (vector_sum O u v)) s) closed
      ∙ vectors_equal (vector_sum O (opposite_vector O (vector_sum O u v)) (zero_vector O)) (opposite_vector O (vector_sum O u v)) (none _) (none _)
    where
      back : (a b c : R) → c ≡ O.add (O.neg (O.add a b)) (O.add (O.add a b) c)
      back a b c = identity O L (a ∷ b ∷ c ∷ []) (var 2) (expr.add (expr.neg (expr.add (var 0) (var 1))) (expr.add (expr.add (var 0) (var 1)) (var 2))) tt

      none : (a : R) → O.add a (O.int (pos 0)) ≡ a
      none a = identity O L (a ∷ []) (expr.add (var 0) (expr.int (pos 0))) (var 0) tt

  -- -(r + n), r and n sum to zero
  closed_first : (r n : Vector R) → vector_sum O (vector_sum O (opposite_vector O (vector_sum O r n)) r) n ≡ zero_vector O
  closed_first r n = vectors_equal _ _ (one r.0 n.0) (one r.1 n.1)
    where
      one : (a b : R) → O.add (O.add (O.neg (O.add a b)) a) b ≡ O.int (pos 0)
      one a b = identity O L (a ∷ b ∷ []) (expr.add (expr.add (expr.neg (expr.add (var 0) (var 1))) (var 0)) (var 1)) (expr.int (pos 0)) tt

  -- det(-(r + n), r) = det(r, n)
  determinant_first : (r n : Vector R) → det O (opposite_vector O (vector_sum O r n)) r ≡ det O r n
  determinant_first r n =
      identity O L (r.0 ∷ r.1 ∷ n.0 ∷ n.1 ∷ []) (det expr (opposite_vector expr (vector_sum expr u' v')) u') (det expr u' v') tt

  -- where h + n + p = 0 and g + q + r = 0 with g = -h, p + q = -(r + n)
  pub across : (h g n p q r : Vector R) → g ≡ opposite_vector O h → vector_sum O (vector_sum O h n) p ≡ zero_vector O → vector_sum O (vector_sum O g q) r ≡ zero_vector O
      → vector_sum O p q ≡ opposite_vector O (vector_sum O r n)
  across h g n p q r e first second =
      vectors_equal _ _
      (one h.0 n.0 p.0 q.0 r.0 (ap (λ (v : Vector R). v.0) first) (ap (λ (v : Vector R). O.add (O.add v.0 q.0) r.0) (sym e) ∙ ap (λ (v : Vector R). v.0) second))
      (one h.1 n.1 p.1 q.1 r.1 (ap (λ (v : Vector R). v.1) first) (ap (λ (v : Vector R). O.add (O.add v.1 q.1) r.1) (sym e) ∙ ap (λ (v : Vector R). v.1) second))
    where
      one : (h n p q r : R) → O.add (O.add h n) p ≡ O.int (pos 0) → O.add (O.add (O.neg h) q) r ≡ O.int (pos 0) → O.add p q ≡ O.neg (O.add r n)
      one h n p q r a b =
          identity O L (h ∷ n ∷ p ∷ q ∷ r ∷ []) (expr.add (var 2) (var 3))
          (expr.sub (expr.add (expr.add (expr.add (var 0) (var 1)) (var 2)) (expr.add (expr.add (expr.neg (var 0)) (var 3)) (var 4))) (expr.add (var 4) (var 1))) tt
          ∙ (λ i. O.sub (O.add (a i) (b i)) (O.add r n))
          ∙ identity O L (n ∷ r ∷ []) (expr.sub (expr.add (expr.int (pos 0)) (expr.int (pos 0))) (expr.add (var 1) (var 0))) (expr.neg (expr.add (var 1) (var 0))) tt

  -- so -(-(r + n)), p and q sum to zero
  closed_second : (h g n p q r : Vector R) → g ≡ opposite_vector O h → vector_sum O (vector_sum O h n) p ≡ zero_vector O → vector_sum O (vector_sum O g q) r ≡ zero_vector O
      → vector_sum O (vector_sum O (opposite_vector O (opposite_vector O (vector_sum O r n))) p) q ≡ zero_vector O
  closed_second h g n p q r e first second =
      ap (λ (s : Vector R). vector_sum O (vector_sum O (opposite_vector O s) p) q) (sym (across h g n p q r e first second)) ∙ closed_first p q

  -- det(u, -u) = 0
  determinant_opposite : (u : Vector R) → det O u (opposite_vector O u) ≡ O.int (pos 0)
  determinant_opposite u = identity O L (u.0 ∷ u.1 ∷ []) (det expr u' (opposite_vector expr u')) (expr.int (pos 0)) tt

-- a vector whose opposite is v is the opposite of v
pub from_opposite : (d : ℕ) (u v : Vector Quad) → v ≡ opposite_vector (quad_ops d) u → u ≡ opposite_vector (quad_ops d) v
from_opposite d u v e = sym (opposite_twice (quad_ops d) (quad_ring d) u) ∙ ap (opposite_vector (quad_ops d)) (sym e)

-- the vectors of a triangle: they sum to zero, and the first turns to the left into the second
pub record IsTriple (d : ℕ) (u v w : Vector Quad) : Type 0 where
  pub closed : vector_sum (quad_ops d) (vector_sum (quad_ops d) u v) w ≡ zero_vector (quad_ops d)
  pub turns : IsPositive d (det (quad_ops d) u v)

-- the same from its next side on
pub triple_turned : (d : ℕ) (u v w : Vector Quad) → IsTriple d u v w → IsTriple d v w u
triple_turned d u v w t = record {
  closed = sum_turned (quad_ops d) (quad_ring d) u v w ∙ t.closed;
  turns = subst (IsPositive d) (sym (det_closed_second (quad_ops d) (quad_ring d) u v w t.closed)) t.turns;
}

-- the third side of a triangle is the opposite of the sum of the others
pub triple_third : (d : ℕ) (u v w : Vector Quad) → IsTriple d u v w → w ≡ opposite_vector (quad_ops d) (vector_sum (quad_ops d) u v)
triple_third d u v w t = third_of_closed (quad_ops d) (quad_ring d) u v w t.closed

-- the triangle of the new diagonal
pub triple_first : (d : ℕ) (r n : Vector Quad) → IsPositive d (det (quad_ops d) r n) → IsTriple d (opposite_vector (quad_ops d) (vector_sum (quad_ops d) r n)) r n
triple_first d r n turns = record {
  closed = closed_first (quad_ops d) (quad_ring d) r n;
  turns = subst (IsPositive d) (sym (determinant_first (quad_ops d) (quad_ring d) r n)) turns;
}

-- and that of its opposite
pub triple_second : (d : ℕ) (h g n p q r : Vector Quad) → g ≡ opposite_vector (quad_ops d) h → IsTriple d h n p → IsTriple d g q r → IsPositive d (det (quad_ops d) p q)
    → IsTriple d (opposite_vector (quad_ops d) (opposite_vector (quad_ops d) (vector_sum (quad_ops d) r n))) p q
triple_second d h g n p q r e first second turns =
    let O = quad_ops d in
    let closed = closed_second O (quad_ring d) h g n p q r e first.closed second.closed in
    record {
      closed = closed;
      turns = subst (IsPositive d) (det_closed_second O (quad_ring d) (opposite_vector O (opposite_vector O (vector_sum O r n))) p q closed) turns;
    }

-- no vector turns to the left into its opposite
pub opposite_does_not_turn : (d : ℕ) (u v w : Vector Quad) → v ≡ opposite_vector (quad_ops d) u → ¬ (IsTriple d u v w)
opposite_does_not_turn d u v w e t =
    zero_not_positive d (subst (IsPositive d) (ap (det (quad_ops d) u) e ∙ determinant_opposite (quad_ops d) (quad_ring d) u) t.turns)

-- a side of a triangle has a length
pub side_not_zero : (d : ℕ) (u v w : Vector Quad) → u ≡ zero_vector (quad_ops d) → ¬ (IsTriple d u v w)
side_not_zero d u v w none t =
    zero_not_positive d (subst (IsPositive d) (ap (λ (s : Vector Quad). det (quad_ops d) s v) none ∙ det_zero_left (quad_ops d) (quad_ring d) v) t.turns)

-- a vector that is its own opposite is zero
whole_zero : (a : ℤ) → a ≡ neg_ℤ a → a ≡ pos 0
whole_zero a e = omega (arith, ints)

quad_zero : (d : ℕ) (x : Quad) → x ≡ (quad_ops d).neg x → x ≡ (quad_ops d).int (pos 0)
quad_zero d x e i = quad (whole_zero x.a (ap (λ (y : Quad). y.a) e) i) (whole_zero x.b (ap (λ (y : Quad). y.b) e) i)

pub own_opposite : (d : ℕ) (u : Vector Quad) → u ≡ opposite_vector (quad_ops d) u → u ≡ zero_vector (quad_ops d)
own_opposite d u e i = (quad_zero d u.0 (ap (λ (v : Vector Quad). v.0) e) i, quad_zero d u.1 (ap (λ (v : Vector Quad). v.1) e) i)
