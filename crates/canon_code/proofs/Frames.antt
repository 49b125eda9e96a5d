-- Vectors in a frame: what a matrix and a multiple do to them, in every ordered ring.
use Rattle.std.proofs.Common.{◌≡◌, [], ◌∷◌, sym, ap, ◌∙◌, subst}
use mathlib.Core.Path.{ap₂}
use Rattle.std.specs.Prelude.{pos}
use Rattle.rings.specs.Ring.{Ops, IsRing, Expr, var, expr}
use Rattle.rings.specs.Order.{IsOrdered}
use Rattle.rings.proofs.Solver.{identity}
use Rattle.rings.proofs.Factors.{cancel_positive}
use Rattle.rings.proofs.Matrices.{det_carried}
use Rattle.rings.proofs.Forms.{three_vectors_first, three_vectors_second}
use Rattle.plane.specs.Vectors.{Vector, det, vector_sum, opposite_vector}
use Rattle.rings.specs.Vectors.{multiple_vector}
use Rattle.rings.specs.Matrices.{Matrix, mapped, matrix_det}
use Rattle.canon_code.specs.Serials.{IsWritten}

-- vectors of the first variables
abbrev e2 : Vector Expr
e2 = (var 0, var 1)

abbrev g2 : Vector Expr
g2 = (var 2, var 3)

abbrev v2 : Vector Expr
v2 = (var 4, var 5)

module _ {R : Type 0} (O : Ops R) (L : IsRing O) where
  -- a factor moves to the front
  pub to_front : (a b c : R) → O.mul a (O.mul b c) ≡ O.mul b (O.mul a c)
  to_front a b c = identity O L (a ∷ b ∷ c ∷ []) (expr.mul (var 0) (expr.mul (var 1) (var 2))) (expr.mul (var 1) (expr.mul (var 0) (var 2))) tt

  -- p·(δ'·w) = p·(m·x') where p·δ' = q·δ, p·x' = q·x and δ·w = m·x
  pub moved_equation : (p q m δ δ' x x' w : R) → O.mul p δ' ≡ O.mul q δ → O.mul p x' ≡ O.mul q x → O.mul δ w ≡ O.mul m x
      → O.mul p (O.mul δ' w) ≡ O.mul p (O.mul m x')
  moved_equation p q m δ δ' x x' w e f g =
      sym (L.mul_assoc p δ' w) ∙ ap (λ z. O.mul z w) e ∙ L.mul_assoc q δ w ∙ ap (O.mul q) g ∙ to_front q m x ∙ ap (O.mul m) (sym f) ∙ to_front m p x'

  module _ {P : R → Type 0} (Q : IsOrdered O P) where
    -- what is written in a frame is written so in the image's frame
    pub written_forth : (n : Matrix R) (c m : R) (e g v x y z w : Vector R) → P c → multiple_vector O c x ≡ mapped O n e → multiple_vector O c y ≡ mapped O n g → multiple_vector O c z ≡ mapped O n v
        → IsWritten O m e g v w → IsWritten O m x y z w
    written_forth n c m e g v x y z w pc he hg hv h =
        let d = det_carried O L n c e g x y he hg in
        let cc : P (O.mul c c) = Q.product c c pc pc in (
          cancel_positive O L Q (O.mul c c) _ _ cc (moved_equation (O.mul c c) (matrix_det O n) m (det O e g) (det O x y) (det O v g) (det O z y) w.0 d (det_carried O L n c v g z y hv hg) h.0),
          cancel_positive O L Q (O.mul c c) _ _ cc (moved_equation (O.mul c c) (matrix_det O n) m (det O e g) (det O x y) (det O e v) (det O x z) w.1 d (det_carried O L n c e v x z he hv) h.1),
        )

    -- and back
    pub written_back : (n : Matrix R) (c m : R) (e g v x y z w : Vector R) → P (matrix_det O n) → multiple_vector O c x ≡ mapped O n e → multiple_vector O c y ≡ mapped O n g → multiple_vector O c z ≡ mapped O n v
        → IsWritten O m x y z w → IsWritten O m e g v w
    written_back n c m e g v x y z w pn he hg hv h =
        let d = sym (det_carried O L n c e g x y he hg) in (
          cancel_positive O L Q (matrix_det O n) _ _ pn (moved_equation (matrix_det O n) (O.mul c c) m (det O x y) (det O e g) (det O z y) (det O v g) w.0 d (sym (det_carried O L n c v g z y hv hg)) h.0),
          cancel_positive O L Q (matrix_det O n) _ _ pn (moved_equation (matrix_det O n) (O.mul c c) m (det O x y) (det O e g) (det O x z) (det O e v) w.1 d (sym (det_carried O L n c e v x z he hv)) h.1),
        )

    -- what is written in a frame is written there in one way
    pub written_once : (m : R) (e g v w z : Vector R) → P (det O e g) → IsWritten O m e g v w → IsWritten O m e g v z → w ≡ z
    written_once m e g v w z p h k = ap₂ (λ (s t : R). let u : Vector R = (s, t) in u) (cancel_positive O L Q (det O e g) w.0 z.0 p (h.0 ∙ sym k.0)) (cancel_positive O L Q (det O e g) w.1 z.1 p (h.1 ∙ sym k.1))

    -- m·v = w.s·e + w.t·g for the vector w that m·v is written by
    pub written_maps : (m : R) (e g v w : Vector R) → P (det O e g) → IsWritten O m e g v w → multiple_vector O m v ≡ mapped O (e.0, g.0, e.1, g.1) w
    written_maps m e g v w p h =
        ap₂ (λ (s t : R). let u : Vector R = (s, t) in u)
        (cancel_positive O L Q (det O e g) (O.mul m v.0) (O.add (O.mul e.0 w.0) (O.mul g.0 w.1)) p (part e.0 g.0 v.0 (three_vectors_first O L e g v)))
        (cancel_positive O L Q (det O e g) (O.mul m v.1) (O.add (O.mul e.1 w.0) (O.mul g.1 w.1)) p (part e.1 g.1 v.1 (three_vectors_second O L e g v)))
      where
        -- δ·(m·c) = δ·(a·w.s + b·w.t) for a coordinate c with δ·c = det(v, g)·a + det(e, v)·b
        part : (a b c : R) → O.mul (det O e g) c ≡ O.add (O.mul (det O v g) a) (O.mul (det O e v) b)
            → O.mul (det O e g) (O.mul m c) ≡ O.mul (det O e g) (O.add (O.mul a w.0) (O.mul b w.1))
        part a b c k =
            to_front (det O e g) m c ∙ ap (O.mul m) k
            ∙ identity O L (m ∷ det O v g ∷ det O e v ∷ a ∷ b ∷ [])
            (expr.mul (var 0) (expr.add (expr.mul (var 1) (var 3)) (expr.mul (var 2) (var 4))))
            (expr.add (expr.mul (var 3) (expr.mul (var 0) (var 1))) (expr.mul (var 4) (expr.mul (var 0) (var 2)))) tt
            ∙ ap₂ (λ s t. O.add (O.mul a s) (O.mul b t)) (sym h.0) (sym h.1)
            ∙ identity O L (det O e g ∷ w.0 ∷ w.1 ∷ a ∷ b ∷ [])
            (expr.add (expr.mul (var 3) (expr.mul (var 0) (var 1))) (expr.mul (var 4) (expr.mul (var 0) (var 2))))
            (expr.mul (var 0) (expr.add (expr.mul (var 3) (var 1)) (expr.mul (var 4) (var 2)))) tt

    -- the matrix that takes det(e, g)·e to x and det(e, g)·g to y, times det(e, g)
    abbrev pub between : Vector R → Vector R → Vector R → Vector R → Matrix R
    between e g x y = (
      O.sub (O.mul x.0 g.1) (O.mul y.0 e.1),
      O.sub (O.mul y.0 e.0) (O.mul x.0 g.0),
      O.sub (O.mul x.1 g.1) (O.mul y.1 e.1),
      O.sub (O.mul y.1 e.0) (O.mul x.1 g.0),
    )

    -- it does
    pub between_first : (e g x y : Vector R) → multiple_vector O (det O e g) x ≡ mapped O (between e g x y) e
    between_first e g x y = ap₂ (λ (s t : R). let u : Vector R = (s, t) in u) (coordinate x.0 y.0) (coordinate x.1 y.1)
      where
        coordinate : (a b : R) → O.mul (det O e g) a ≡ O.add (O.mul (O.sub (O.mul a g.1) (O.mul b e.1)) e.0) (O.mul (O.sub (O.mul b e.0) (O.mul a g.0)) e.1)
        coordinate a b =
            identity O L (e.0 ∷ e.1 ∷ g.0 ∷ g.1 ∷ a ∷ b ∷ []) (expr.mul (det expr e2 g2) (var 4))
            (expr.add (expr.mul (expr.sub (expr.mul (var 4) (var 3)) (expr.mul (var 5) (var 1))) (var 0)) (expr.mul (expr.sub (expr.mul (var 5) (var 0)) (expr.mul (var 4) (var 2))) (var 1))) tt

    pub between_second : (e g x y : Vector R) → multiple_vector O (det O e g) y ≡ mapped O (between e g x y) g
    between_second e g x y = ap₂ (λ (s t : R). let u : Vector R = (s, t) in u) (coordinate x.0 y.0) (coordinate x.1 y.1)
      where
        coordinate : (a b : R) → O.mul (det O e g) b ≡ O.add (O.mul (O.sub (O.mul a g.1) (O.mul b e.1)) g.0) (O.mul (O.sub (O.mul b e.0) (O.mul a g.0)) g.1)
        coordinate a b =
            identity O L (e.0 ∷ e.1 ∷ g.0 ∷ g.1 ∷ a ∷ b ∷ []) (expr.mul (det expr e2 g2) (var 5))
            (expr.add (expr.mul (expr.sub (expr.mul (var 4) (var 3)) (expr.mul (var 5) (var 1))) (var 2)) (expr.mul (expr.sub (expr.mul (var 5) (var 0)) (expr.mul (var 4) (var 2))) (var 3))) tt

    -- a matrix that carries the frame carries all that is written alike
    pub written_carried : (n : Matrix R) (c m : R) (e g v x y z w : Vector R) → P m → P (det O e g) → P (det O x y) → multiple_vector O c x ≡ mapped O n e → multiple_vector O c y ≡ mapped O n g
        → IsWritten O m e g v w → IsWritten O m x y z w → multiple_vector O c z ≡ mapped O n v
    written_carried n c m e g v x y z w pm pe px he hg h k =
        ap₂ (λ (s t : R). let u : Vector R = (s, t) in u)
        (cancel_positive O L Q m _ _ pm (part n.0 n.1 x.0 y.0 z.0 (ap (λ (u : Vector R). u.0) he) (ap (λ (u : Vector R). u.0) hg) (ap (λ (u : Vector R). u.0) there)))
        (cancel_positive O L Q m _ _ pm (part n.2 n.3 x.1 y.1 z.1 (ap (λ (u : Vector R). u.1) he) (ap (λ (u : Vector R). u.1) hg) (ap (λ (u : Vector R). u.1) there)))
      where
        here : multiple_vector O m v ≡ mapped O (e.0, g.0, e.1, g.1) w
        here = written_maps m e g v w pe h

        there : multiple_vector O m z ≡ mapped O (x.0, y.0, x.1, y.1) w
        there = written_maps m x y z w px k

        -- m·(c·z) = m·(p·v.s + q·v.t) where c·x = p·e.s + q·e.t, c·y = p·g.s + q·g.t and m·z = x·w.s + y·w.t
        part : (p q a b t : R) → O.mul c a ≡ O.add (O.mul p e.0) (O.mul q e.1) → O.mul c b ≡ O.add (O.mul p g.0) (O.mul q g.1) → O.mul m t ≡ O.add (O.mul a w.0) (O.mul b w.1)
            → O.mul m (O.mul c t) ≡ O.mul m (O.add (O.mul p v.0) (O.mul q v.1))
        part p q a b t i j l =
            to_front m c t ∙ ap (O.mul c) l
            ∙ identity O L (c ∷ a ∷ b ∷ w.0 ∷ w.1 ∷ [])
            (expr.mul (var 0) (expr.add (expr.mul (var 1) (var 3)) (expr.mul (var 2) (var 4)))) (expr.add (expr.mul (expr.mul (var 0) (var 1)) (var 3)) (expr.mul (expr.mul (var 0) (var 2)) (var 4))) tt
            ∙ ap₂ (λ s r. O.add (O.mul s w.0) (O.mul r w.1)) i j
            ∙ identity O L (e.0 ∷ e.1 ∷ g.0 ∷ g.1 ∷ p ∷ q ∷ w.0 ∷ w.1 ∷ [])
            (expr.add (expr.mul (expr.add (expr.mul (var 4) (var 0)) (expr.mul (var 5) (var 1))) (var 6)) (expr.mul (expr.add (expr.mul (var 4) (var 2)) (expr.mul (var 5) (var 3))) (var 7)))
            (expr.add (expr.mul (var 4) (expr.add (expr.mul (var 0) (var 6)) (expr.mul (var 2) (var 7)))) (expr.mul (var 5) (expr.add (expr.mul (var 1) (var 6)) (expr.mul (var 3) (var 7))))) tt
            ∙ ap₂ (λ s r. O.add (O.mul p s) (O.mul q r)) (sym (ap (λ (u : Vector R). u.0) here)) (sym (ap (λ (u : Vector R). u.1) here))
            ∙ identity O L (m ∷ p ∷ q ∷ v.0 ∷ v.1 ∷ [])
            (expr.add (expr.mul (var 1) (expr.mul (var 0) (var 3))) (expr.mul (var 2) (expr.mul (var 0) (var 4)))) (expr.mul (var 0) (expr.add (expr.mul (var 1) (var 3)) (expr.mul (var 2) (var 4)))) tt

    -- the vector that makes a triangle with u and v
    third_is : (u v w : Vector R) → vector_sum O (vector_sum O u v) w ≡ (O.int (pos 0), O.int (pos 0)) → w ≡ opposite_vector O (vector_sum O u v)
    third_is u v w e =
        ap₂ (λ (s t : R). let x : Vector R = (s, t) in x) (coordinate u.0 v.0 w.0 (ap (λ (x : Vector R). x.0) e)) (coordinate u.1 v.1 w.1 (ap (λ (x : Vector R). x.1) e))
      where
        coordinate : (a b c : R) → O.add (O.add a b) c ≡ O.int (pos 0) → c ≡ O.neg (O.add a b)
        coordinate a b c k =
            identity O L (a ∷ b ∷ c ∷ []) (var 2) (expr.sub (expr.add (expr.add (var 0) (var 1)) (var 2)) (expr.add (var 0) (var 1))) tt
            ∙ ap (λ x. O.sub x (O.add a b)) k
            ∙ identity O L (a ∷ b ∷ []) (expr.sub (expr.int (pos 0)) (expr.add (var 0) (var 1))) (expr.neg (expr.add (var 0) (var 1))) tt

    -- what the opposite of the sum of the first two writes is the third vector of a triangle
    pub written_closed : (m : R) (e g u v w x y : Vector R) → vector_sum O (vector_sum O u v) w ≡ (O.int (pos 0), O.int (pos 0))
        → IsWritten O m e g u x → IsWritten O m e g v y → IsWritten O m e g w (opposite_vector O (vector_sum O x y))
    written_closed m e g u v w x y closed h k = subst (λ (t : Vector R). IsWritten O m e g t (opposite_vector O (vector_sum O x y))) (sym (third_is u v w closed)) (first, second)
      where
        sums : (a b c d : R) → O.mul (det O e g) a ≡ O.mul m c → O.mul (det O e g) b ≡ O.mul m d → O.mul (det O e g) (O.neg (O.add a b)) ≡ O.neg (O.add (O.mul m c) (O.mul m d))
        sums a b c d i j =
            identity O L (det O e g ∷ a ∷ b ∷ []) (expr.mul (var 0) (expr.neg (expr.add (var 1) (var 2)))) (expr.neg (expr.add (expr.mul (var 0) (var 1)) (expr.mul (var 0) (var 2)))) tt
            ∙ ap₂ (λ s t. O.neg (O.add s t)) i j

        first : O.mul (det O e g) (O.neg (O.add x.0 y.0)) ≡ O.mul m (det O (opposite_vector O (vector_sum O u v)) g)
        first =
            sums x.0 y.0 _ _ h.0 k.0
            ∙ identity O L (u.0 ∷ u.1 ∷ v.0 ∷ v.1 ∷ g.0 ∷ g.1 ∷ m ∷ [])
            (expr.neg (expr.add (expr.mul (var 6) (det expr e2 v2)) (expr.mul (var 6) (det expr g2 v2)))) (expr.mul (var 6) (det expr (opposite_vector expr (vector_sum expr e2 g2)) v2)) tt

        second : O.mul (det O e g) (O.neg (O.add x.1 y.1)) ≡ O.mul m (det O e (opposite_vector O (vector_sum O u v)))
        second =
            sums x.1 y.1 _ _ h.1 k.1
            ∙ identity O L (u.0 ∷ u.1 ∷ v.0 ∷ v.1 ∷ e.0 ∷ e.1 ∷ m ∷ [])
            (expr.neg (expr.add (expr.mul (var 6) (det expr v2 e2)) (expr.mul (var 6) (det expr v2 g2)))) (expr.mul (var 6) (det expr v2 (opposite_vector expr (vector_sum expr e2 g2)))) tt

    -- the third vector of a triangle is written by the opposite of the sum of the first two
    pub written_third : (m : R) (e g u v w x y z : Vector R) → P (det O e g) → vector_sum O (vector_sum O u v) w ≡ (O.int (pos 0), O.int (pos 0))
        → IsWritten O m e g u x → IsWritten O m e g v y → IsWritten O m e g w z → z ≡ opposite_vector O (vector_sum O x y)
    written_third m e g u v w x y z p closed h k l = written_once m e g w z (opposite_vector O (vector_sum O x y)) p l (written_closed m e g u v w x y closed h k)

  -- det(p, q) of what is written: m²·det(u, v) = det(e, g)·det(x, y), where m·u = x.s·e + x.t·g and m·v = y.s·e + y.t·g
  pub written_det : (m : R) (e g u v x y : Vector R) → multiple_vector O m u ≡ mapped O (e.0, g.0, e.1, g.1) x → multiple_vector O m v ≡ mapped O (e.0, g.0, e.1, g.1) y
      → O.mul (O.mul m m) (det O u v) ≡ O.mul (det O x y) (det O e g)
  written_det m e g u v x y h k =
      det_carried O L (e.0, g.0, e.1, g.1) m x y u v h k
      ∙ identity O L (e.0 ∷ g.0 ∷ e.1 ∷ g.1 ∷ det O x y ∷ []) (expr.mul (expr.sub (expr.mul (var 0) (var 3)) (expr.mul (var 1) (var 2))) (var 4))
      (expr.mul (var 4) (expr.sub (expr.mul (var 0) (var 3)) (expr.mul (var 2) (var 1)))) tt

  -- the opposite of a vector is written by the opposite
  pub written_opposite : (m : R) (e g v w : Vector R) → IsWritten O m e g v w → IsWritten O m e g (opposite_vector O v) (opposite_vector O w)
  written_opposite m e g v w h = (
    identity O L (det O e g ∷ w.0 ∷ []) (expr.mul (var 0) (expr.neg (var 1))) (expr.neg (expr.mul (var 0) (var 1))) tt ∙ ap O.neg h.0
        ∙ identity O L (m ∷ v.0 ∷ v.1 ∷ g.0 ∷ g.1 ∷ []) (expr.neg (expr.mul (var 0) (det expr (var 1, var 2) (var 3, var 4)))) (expr.mul (var 0) (det expr (opposite_vector expr (var 1, var 2)) (var 3, var 4))) tt,
    identity O L (det O e g ∷ w.1 ∷ []) (expr.mul (var 0) (expr.neg (var 1))) (expr.neg (expr.mul (var 0) (var 1))) tt ∙ ap O.neg h.1
        ∙ identity O L (m ∷ v.0 ∷ v.1 ∷ e.0 ∷ e.1 ∷ []) (expr.neg (expr.mul (var 0) (det expr (var 3, var 4) (var 1, var 2)))) (expr.mul (var 0) (det expr (var 3, var 4) (opposite_vector expr (var 1, var 2)))) tt,
  )

  -- a vector and its opposite sum to zero
  pub sum_opposite : (u v : Vector R) → vector_sum O (vector_sum O u v) (opposite_vector O (vector_sum O u v)) ≡ (O.int (pos 0), O.int (pos 0))
  sum_opposite u v =
      ap₂ (λ (s t : R). let x : Vector R = (s, t) in x)
      (L.add-neg (O.add u.0 v.0)) (L.add-neg (O.add u.1 v.1))
