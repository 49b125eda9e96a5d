-- The value of a hinge from its other ends, in every commutative ring.
use Rattle.std.proofs.Common.{◌≡◌, [], ◌∷◌}
use Rattle.std.specs.Prelude.{pos}
use Rattle.rings.specs.Ring.{Ops, IsRing, Expr, var, expr}
use Rattle.rings.specs.Forms.{det, length_by, three_row_determinant, hinge_triple, discriminant}
use Rattle.rings.specs.Lines.{multiple}
use Rattle.rings.proofs.Solver.{identity}
use Rattle.plane.specs.Vectors.{Vector, vector_sum, opposite_vector}

-- the vectors and the place of the first variables
abbrev a' : Expr × Expr
a' = (var 0, var 1)

abbrev p' : Expr × Expr
p' = (var 2, var 3)

abbrev d' : Expr × Expr
d' = (var 4, var 5)

abbrev q' : Expr × Expr × Expr
q' = (var 6, var 7, var 8)

-- the third side of a triangle with the sides u and v
abbrev pub third_side : {R : Type 0} → Ops R → Vector R → Vector R → Vector R
third_side O u v = opposite_vector O (vector_sum O u v)

-- the place at which the vector a has no length
abbrev pub flat_place : {R : Type 0} → Ops R → Vector R → R × R × R
flat_place O a = (O.mul a.1 a.1, O.neg (O.mul a.0 a.1), O.mul a.0 a.0)

-- a, p and d are the half-edge, the one before it, and the one behind its twin: its hinge is a, -p, d
module _ {R : Type 0} (O : Ops R) (L : IsRing O) where
  -- the hinge of the twin
  pub twin_value : (q : R × R × R) (a p d : Vector R)
      → three_row_determinant O q (opposite_vector O a) (opposite_vector O (third_side O (opposite_vector O a) d)) (third_side O p a)
      ≡ three_row_determinant O q a (opposite_vector O p) d
  twin_value q a p d =
      identity O L (a.0 ∷ a.1 ∷ p.0 ∷ p.1 ∷ d.0 ∷ d.1 ∷ q.0 ∷ q.1 ∷ q.2 ∷ [])
      (three_row_determinant expr q' (opposite_vector expr a') (opposite_vector expr (third_side expr (opposite_vector expr a') d')) (third_side expr p' a'))
      (three_row_determinant expr q' a' (opposite_vector expr p') d') tt

  -- the hinge of the new diagonal
  pub diagonal_value : (q : R × R × R) (a p d : Vector R)
      → three_row_determinant O q (third_side O (third_side O (opposite_vector O a) d) (third_side O p a)) (opposite_vector O (third_side O p a)) p
      ≡ O.neg (three_row_determinant O q a (opposite_vector O p) d)
  diagonal_value q a p d =
      identity O L (a.0 ∷ a.1 ∷ p.0 ∷ p.1 ∷ d.0 ∷ d.1 ∷ q.0 ∷ q.1 ∷ q.2 ∷ [])
      (three_row_determinant expr q' (third_side expr (third_side expr (opposite_vector expr a') d') (third_side expr p' a')) (opposite_vector expr (third_side expr p' a')) p')
      (expr.neg (three_row_determinant expr q' a' (opposite_vector expr p') d')) tt

  -- with A = det(a, c) and C = det(d, a): A·C·(A + C) where a has no length
  pub flat_value : (a c d : Vector R) → let A = det O a c in let C = det O d a in
      three_row_determinant O (flat_place O a) a c d ≡ O.mul (O.mul A C) (O.add A C)
  flat_value a c d =
      let A = det expr a' p' in let C = det expr d' a' in
      identity O L (a.0 ∷ a.1 ∷ c.0 ∷ c.1 ∷ d.0 ∷ d.1 ∷ []) (three_row_determinant expr (flat_place expr a') a' p' d')
      (expr.mul (expr.mul A C) (expr.add A C)) tt

  -- the value as A·len(d) + C·len(c) + (-B)·len(a)
  pub value_as_sum : (q : R × R × R) (a c d : Vector R) →
      O.add (O.add (O.mul (det O a c) (length_by O q d)) (O.mul (det O d a) (length_by O q c))) (O.mul (O.neg (det O d c)) (length_by O q a))
      ≡ three_row_determinant O q a c d
  value_as_sum q a c d =
      identity O L (a.0 ∷ a.1 ∷ c.0 ∷ c.1 ∷ d.0 ∷ d.1 ∷ q.0 ∷ q.1 ∷ q.2 ∷ [])
      (expr.add (expr.add (expr.mul (det expr a' p') (length_by expr q' d')) (expr.mul (det expr d' a') (length_by expr q' p'))) (expr.mul (expr.neg (det expr d' p')) (length_by expr q' a')))
      (three_row_determinant expr q' a' p' d') tt

  -- det(u, -v) = det(v, u)
  pub determinant_opposite_second : (u v : Vector R) → det O u (opposite_vector O v) ≡ det O v u
  determinant_opposite_second u v = identity O L (u.0 ∷ u.1 ∷ v.0 ∷ v.1 ∷ []) (det expr a' (opposite_vector expr p')) (det expr p' a') tt

  -- det(-u, v) = det(v, u)
  pub determinant_opposite_first : (u v : Vector R) → det O (opposite_vector O u) v ≡ det O v u
  determinant_opposite_first u v = identity O L (u.0 ∷ u.1 ∷ v.0 ∷ v.1 ∷ []) (det expr (opposite_vector expr a') p') (det expr p' a') tt

  -- the chord test of the hinge a, -p, d is four times the product of the four turns of its quadrilateral
  pub chord_of_turns : (a p d : Vector R) → discriminant O (hinge_triple O a (opposite_vector O p) d)
      ≡ O.mul (O.int (pos 4)) (O.mul (O.mul (det O a (opposite_vector O p)) (det O d a)) (O.mul (det O p d) (det O (third_side O (opposite_vector O a) d) (third_side O p a))))
  chord_of_turns a p d =
      identity O L (a.0 ∷ a.1 ∷ p.0 ∷ p.1 ∷ d.0 ∷ d.1 ∷ []) (discriminant expr (hinge_triple expr a' (opposite_vector expr p') d'))
      (expr.mul (expr.int (pos 4)) (expr.mul (expr.mul (det expr a' (opposite_vector expr p')) (det expr d' a'))
      (expr.mul (det expr p' d') (det expr (third_side expr (opposite_vector expr a') d') (third_side expr p' a'))))) tt

  pub discriminant_of_multiple : (g : R) (l : R × R × R) → discriminant O (multiple O g l) ≡ O.mul (discriminant O l) (O.mul g g)
  discriminant_of_multiple g l =
      identity O L (g ∷ l.0 ∷ l.1 ∷ l.2 ∷ []) (discriminant expr (multiple expr (var 0) (var 1, var 2, var 3))) (expr.mul (discriminant expr (var 1, var 2, var 3)) (expr.mul (var 0) (var 0))) tt
