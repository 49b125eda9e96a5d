-- Identities of determinants, lengths and the triple of a hinge, in every commutative ring.
use Rattle.std.proofs.Common.{◌≡◌, [], ◌∷◌}
use Rattle.std.specs.Prelude.{pos}
use Rattle.rings.specs.Ring.{Ops, IsRing, Expr, var, expr}
use Rattle.rings.specs.Forms.{det, length_by, inner_value, value_at, three_row_determinant, hinge_triple, discriminant, chord_point, upright_chord_point}
use Rattle.rings.proofs.Solver.{identity}

-- the vectors and the form of the first variables
abbrev u' : Expr × Expr
u' = (var 0, var 1)

abbrev v' : Expr × Expr
v' = (var 2, var 3)

abbrev w' : Expr × Expr
w' = (var 4, var 5)

abbrev q' : Expr × Expr × Expr
q' = (var 6, var 7, var 8)

abbrev l' : Expr × Expr × Expr
l' = (var 0, var 1, var 2)

module _ {R : Type 0} (O : Ops R) (L : IsRing O) where
  -- det(u, v)·w = det(w, v)·u + det(u, w)·v, its first coordinate
  pub three_vectors_first : (u v w : R × R) → O.mul (det O u v) w.0 ≡ O.add (O.mul (det O w v) u.0) (O.mul (det O u w) v.0)
  three_vectors_first u v w =
      identity O L (u.0 ∷ u.1 ∷ v.0 ∷ v.1 ∷ w.0 ∷ w.1 ∷ [])
      (expr.mul (det expr u' v') w'.0) (expr.add (expr.mul (det expr w' v') u'.0) (expr.mul (det expr u' w') v'.0)) tt

  -- and its second
  pub three_vectors_second : (u v w : R × R) → O.mul (det O u v) w.1 ≡ O.add (O.mul (det O w v) u.1) (O.mul (det O u w) v.1)
  three_vectors_second u v w =
      identity O L (u.0 ∷ u.1 ∷ v.0 ∷ v.1 ∷ w.0 ∷ w.1 ∷ [])
      (expr.mul (det expr u' v') w'.1) (expr.add (expr.mul (det expr w' v') u'.1) (expr.mul (det expr u' w') v'.1)) tt

  -- the value of the hinge's triple at a point is the determinant of the three rows
  pub hinge_value : (q : R × R × R) (a c d : R × R) → three_row_determinant O q a c d ≡ value_at O (hinge_triple O a c d) q
  hinge_value q a c d =
      identity O L (a.0 ∷ a.1 ∷ c.0 ∷ c.1 ∷ d.0 ∷ d.1 ∷ q.0 ∷ q.1 ∷ q.2 ∷ [])
      (three_row_determinant expr q' u' v' w') (value_at expr (hinge_triple expr u' v' w') q') tt

  -- the chord point lies on its line
  pub chord_point_on_line : (l : R × R × R) → value_at O l (chord_point O l) ≡ O.int (pos 0)
  chord_point_on_line l = identity O L (l.0 ∷ l.1 ∷ l.2 ∷ []) (value_at expr l' (chord_point expr l')) (expr.int (pos 0)) tt

  -- and so does that of a line with γ = 0
  pub upright_chord_point_on_line : (α β : R) → value_at O (α, β, O.int (pos 0)) (upright_chord_point O (α, β, O.int (pos 0))) ≡ O.int (pos 0)
  upright_chord_point_on_line α β =
      identity O L (α ∷ β ∷ []) (value_at expr (var 0, var 1, expr.int (pos 0)) (upright_chord_point expr (var 0, var 1, expr.int (pos 0)))) (expr.int (pos 0)) tt

  -- the inner value of the chord point is γ²·(β² - 4αγ)
  pub chord_point_inner : (l : R × R × R) → inner_value O (chord_point O l) ≡ O.mul (O.mul l.2 l.2) (discriminant O l)
  chord_point_inner l = identity O L (l.0 ∷ l.1 ∷ l.2 ∷ []) (inner_value expr (chord_point expr l')) (expr.mul (expr.mul l'.2 l'.2) (discriminant expr l')) tt

  -- with γ = 0 it is β²·β²
  pub upright_chord_point_inner : (α β : R) → inner_value O (upright_chord_point O (α, β, O.int (pos 0))) ≡ O.mul (O.mul β β) (O.mul β β)
  upright_chord_point_inner α β =
      let b : Expr = expr.mul (var 1) (var 1) in
      identity O L (α ∷ β ∷ []) (inner_value expr (upright_chord_point expr (var 0, var 1, expr.int (pos 0)))) (expr.mul b b) tt

  -- w·len(v) = (w·s + x·t)² + (w·y - x²)·t²
  pub completed_square : (q : R × R × R) (v : R × R) → O.mul q.0 (length_by O q v)
      ≡ O.add (O.mul (O.add (O.mul q.0 v.0) (O.mul q.1 v.1)) (O.add (O.mul q.0 v.0) (O.mul q.1 v.1))) (O.mul (inner_value O q) (O.mul v.1 v.1))
  completed_square q v =
      let sum : Expr = expr.add (expr.mul q'.0 u'.0) (expr.mul q'.1 u'.1) in
      identity O L (v.0 ∷ v.1 ∷ q.0 ∷ q.0 ∷ q.0 ∷ q.0 ∷ q.0 ∷ q.1 ∷ q.2 ∷ [])
      (expr.mul q'.0 (length_by expr q' u')) (expr.add (expr.mul sum sum) (expr.mul (inner_value expr q') (expr.mul u'.1 u'.1))) tt

  -- det(v, u) = -det(u, v)
  pub determinant_swap : (u v : R × R) → det O v u ≡ O.neg (det O u v)
  determinant_swap u v =
      identity O L (u.0 ∷ u.1 ∷ v.0 ∷ v.1 ∷ [])
      (det expr (var 2, var 3) (var 0, var 1)) (expr.neg (det expr (var 0, var 1) (var 2, var 3))) tt

  -- (a + b)·(a - b) = a² - b²
  pub squares : (a b : R) → O.mul (O.add a b) (O.sub a b) ≡ O.sub (O.mul a a) (O.mul b b)
  squares a b =
      let x = var 0 in let y = var 1 in
      identity O L (a ∷ b ∷ []) (expr.mul (expr.add x y) (expr.sub x y)) (expr.sub (expr.mul x x) (expr.mul y y)) tt
