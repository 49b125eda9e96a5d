-- The value of a hinge by the two apexes of its edge: at the corner of two sides, of a new diagonal, and with one apex in place of another.
use Rattle.std.proofs.Common.{◌≡◌, [], ◌∷◌, subst, sym, ap, ◌∙◌}
use Rattle.std.specs.Prelude.{pos}
use Rattle.rings.specs.Ring.{Ops, IsRing, Expr, var, expr}
use Rattle.rings.specs.Order.{IsOrdered}
use Rattle.rings.specs.Vectors.{Vector, vector_sum, opposite_vector}
use Rattle.rings.specs.Forms.{det, three_row_determinant}
use Rattle.rings.proofs.Solver.{identity}
use Rattle.rings.proofs.Ordered.{factor}
open expr use {add as ◌+'◌, sub as ◌-'◌, mul as ◌*'◌, neg as neg', int as int'}

infixl 60 ◌+'◌
infixl 60 ◌-'◌
infixl 70 ◌*'◌
-- the vectors and the place of the first variables
abbrev a' : Expr × Expr
a' = (var 0, var 1)

abbrev b' : Expr × Expr
b' = (var 2, var 3)

abbrev c' : Expr × Expr
c' = (var 4, var 5)

abbrev q' : Expr × Expr × Expr
q' = (var 6, var 7, var 8)

abbrev e' : Expr × Expr
e' = (var 9, var 10)

-- the third side of a triangle with the sides u and v
abbrev pub third : {R : Type 0} → Ops R → Vector R → Vector R → Vector R
third O u v = opposite_vector O (vector_sum O u v)

-- the place at which the vectors a and c have no length
abbrev pub corner_place : {R : Type 0} → Ops R → Vector R → Vector R → R × R × R
corner_place O a c = (
  O.neg (O.mul (O.int (pos 2)) (O.mul a.1 c.1)),
  O.add (O.mul a.0 c.1) (O.mul a.1 c.0),
  O.neg (O.mul (O.int (pos 2)) (O.mul a.0 c.0)),
)

-- the value by the vector v of an edge, and its two apexes c and e, as seen from the start of v and from its end
abbrev pub by_apexes : {R : Type 0} → Ops R → R × R × R → Vector R → Vector R → Vector R → R
by_apexes O q v c e = three_row_determinant O q v c (vector_sum O v e)

-- one value is a positive multiple of the other
abbrev pub AreAlike : {R : Type 0} → Ops R → (R → Type 0) → R → R → Type 0
AreAlike {R} O P x y = (m : R) × (n : R) × P m × P n × (O.mul m x ≡ O.mul n y)

module _ {R : Type 0} (O : Ops R) (L : IsRing O) where
  open O use {add as ◌⊕◌, sub as ◌⊖◌, mul as ◌⊗◌, neg as minus, int as num_of}

  infixl 60 ◌⊕◌
  infixl 60 ◌⊖◌
  infixl 70 ◌⊗◌
  -- a, p and d are a half-edge, the one before it and the one behind its twin: the value where a and p have no length
  pub corner_value : (a p d : Vector R) → three_row_determinant O (corner_place O a (opposite_vector O p)) a (opposite_vector O p) d
      ≡ minus (num_of (pos 2) ⊗ ((det O p a ⊗ det O d a) ⊗ det O p d))
  corner_value a p d =
      identity O L (a.0 ∷ a.1 ∷ p.0 ∷ p.1 ∷ d.0 ∷ d.1 ∷ [])
      (three_row_determinant expr (corner_place expr a' (opposite_vector expr b')) a' (opposite_vector expr b') c')
      (neg' (int' (pos 2) *' ((det expr b' a' *' det expr c' a') *' det expr b' c'))) tt

  -- and the value of the next edge there, with z behind its twin
  pub next_corner_value : (a p z : Vector R) → three_row_determinant O (corner_place O a (opposite_vector O p)) (third O p a) (opposite_vector O a) z
      ≡ num_of (pos 2) ⊗ ((det O p a ⊗ det O a z) ⊗ det O (third O (opposite_vector O (third O p a)) z) p)
  next_corner_value a p z =
      identity O L (a.0 ∷ a.1 ∷ p.0 ∷ p.1 ∷ z.0 ∷ z.1 ∷ [])
      (three_row_determinant expr (corner_place expr a' (opposite_vector expr b')) (third expr b' a') (opposite_vector expr a') c')
      (int' (pos 2) *' ((det expr b' a' *' det expr a' c') *' det expr (third expr (opposite_vector expr (third expr b' a')) c') b')) tt

  -- the two apexes of an edge change their places with its direction
  pub apexes_swapped : (q : R × R × R) (v c e : Vector R) → by_apexes O q v c e ≡ by_apexes O q (opposite_vector O v) e c
  apexes_swapped q v c e =
      identity O L (v.0 ∷ v.1 ∷ c.0 ∷ c.1 ∷ e.0 ∷ e.1 ∷ q.0 ∷ q.1 ∷ q.2 ∷ [])
      (by_apexes expr q' a' b' c') (by_apexes expr q' (opposite_vector expr a') c' b') tt

  -- with one apex in place of another
  exchanged : (q : R × R × R) (v c w z : Vector R) → det O v w ⊗ three_row_determinant O q v c z
      ≡ det O v c ⊗ three_row_determinant O q v w z ⊕ det O v z ⊗ three_row_determinant O q v c w
  exchanged q v c w z =
      identity O L (v.0 ∷ v.1 ∷ c.0 ∷ c.1 ∷ w.0 ∷ w.1 ∷ q.0 ∷ q.1 ∷ q.2 ∷ z.0 ∷ z.1 ∷ [])
      (det expr a' c' *' three_row_determinant expr q' a' b' e')
      (det expr a' b' *' three_row_determinant expr q' a' c' e' +' det expr a' e' *' three_row_determinant expr q' a' b' c') tt

  pub one_apex : (q : R × R × R) (v c : Vector R) → three_row_determinant O q v c c ≡ num_of (pos 0)
  one_apex q v c = identity O L (v.0 ∷ v.1 ∷ c.0 ∷ c.1 ∷ v.0 ∷ v.1 ∷ q.0 ∷ q.1 ∷ q.2 ∷ []) (three_row_determinant expr q' a' b' b') (int' (pos 0)) tt

  -- a flip at a, with the next side n and the side r before its twin: the old and the new apex of a side give the value of a
  pub outer_next : (q : R × R × R) (a p d : Vector R)
      → three_row_determinant O q (third O p a) (opposite_vector O a) (opposite_vector O (third O (opposite_vector O a) d)) ≡ three_row_determinant O q a (opposite_vector O p) d
  outer_next q a p d =
      identity O L (a.0 ∷ a.1 ∷ p.0 ∷ p.1 ∷ d.0 ∷ d.1 ∷ q.0 ∷ q.1 ∷ q.2 ∷ [])
      (three_row_determinant expr q' (third expr b' a') (opposite_vector expr a') (opposite_vector expr (third expr (opposite_vector expr a') c')))
      (three_row_determinant expr q' a' (opposite_vector expr b') c') tt

  pub outer_previous : (q : R × R × R) (a p d : Vector R)
      → three_row_determinant O q p (opposite_vector O (third O p a)) (opposite_vector O (third O p d)) ≡ three_row_determinant O q a (opposite_vector O p) d
  outer_previous q a p d =
      identity O L (a.0 ∷ a.1 ∷ p.0 ∷ p.1 ∷ d.0 ∷ d.1 ∷ q.0 ∷ q.1 ∷ q.2 ∷ [])
      (three_row_determinant expr q' b' (opposite_vector expr (third expr b' a')) (opposite_vector expr (third expr b' c')))
      (three_row_determinant expr q' a' (opposite_vector expr b') c') tt

  -- and the new diagonal has the opposite value
  pub diagonal_value : (q : R × R × R) (a p d : Vector R)
      → three_row_determinant O q (third O (third O (opposite_vector O a) d) (third O p a)) (opposite_vector O (third O p a)) p ≡ minus (three_row_determinant O q a (opposite_vector O p) d)
  diagonal_value q a p d =
      identity O L (a.0 ∷ a.1 ∷ p.0 ∷ p.1 ∷ d.0 ∷ d.1 ∷ q.0 ∷ q.1 ∷ q.2 ∷ [])
      (three_row_determinant expr q' (third expr (third expr (opposite_vector expr a') c') (third expr b' a')) (opposite_vector expr (third expr b' a')) b')
      (neg' (three_row_determinant expr q' a' (opposite_vector expr b') c')) tt

  -- v - r for the side r before the twin of v: the far apex, by the third side
  pub far_apex : (v r : Vector R) → third O r (opposite_vector O v) ≡ vector_sum O v (opposite_vector O r)
  far_apex v r i = (one v.0 r.0 i, one v.1 r.1 i)
    where
      one : (a b : R) → minus (b ⊕ minus a) ≡ a ⊕ minus b
      one a b = identity O L (a ∷ b ∷ []) (neg' (var 1 +' neg' (var 0))) (var 0 +' neg' (var 1)) tt

module _ {R : Type 0} (O : Ops R) (L : IsRing O) {P : R → Type 0} (Q : IsOrdered O P) where
  open O use {add as ◌⊕◌, sub as ◌⊖◌, mul as ◌⊗◌, neg as minus, int as num_of}

  infixl 60 ◌⊕◌
  infixl 60 ◌⊖◌
  infixl 70 ◌⊗◌
  pub alike_after : (x y z : R) → AreAlike O P x y → AreAlike O P y z → AreAlike O P x z
  alike_after x y z (m, n, p, q, e) (k, l, s, t, f) = (
    k ⊗ m,
    n ⊗ l,
    Q.product k m s p,
    Q.product n l q t,
    L.mul_assoc k m x ∙ ap (λ (w : R). k ⊗ w) e
        ∙ identity O L (k ∷ n ∷ y ∷ []) (var 0 *' (var 1 *' var 2)) (var 1 *' (var 0 *' var 2)) tt
        ∙ ap (λ (w : R). n ⊗ w) f ∙ sym (L.mul_assoc n l z),
  )

  pub alike_positive : (x y : R) → AreAlike O P x y → P x → P y
  alike_positive x y (m, n, p, q, e) s = factor O L Q y n (subst P (e ∙ L.mul_comm n y) (Q.product m x p s)) q

  -- one apex in place of another, where the hinge of both with the edge has the value zero
  pub apex_exchanged : (q : R × R × R) (v c w z : Vector R) → P (det O v c) → P (det O v w) → three_row_determinant O q v c w ≡ num_of (pos 0)
      → AreAlike O P (three_row_determinant O q v c z) (three_row_determinant O q v w z)
  apex_exchanged q v c w z first second none = (
    det O v w,
    det O v c,
    second,
    first,
    exchanged O L q v c w z
        ∙ ap (λ (x : R). det O v c ⊗ three_row_determinant O q v w z ⊕ det O v z ⊗ x) none
        ∙ identity O L (det O v c ⊗ three_row_determinant O q v w z ∷ det O v z ∷ []) (var 0 +' var 1 *' int' (pos 0)) (var 0) tt,
  )
