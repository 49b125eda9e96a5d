-- Images of vectors by a matrix: their sums, opposites and determinants, in every commutative ring and every ordered one.
use Rattle.std.proofs.Common.{◌≡◌, [], ◌∷◌, subst, sym, ap, ◌∙◌}
use Rattle.rings.specs.Ring.{Ops, IsRing, Expr, var, expr}
use Rattle.rings.specs.Order.{IsOrdered}
use Rattle.rings.specs.Forms.{det}
use Rattle.rings.specs.Vectors.{Vector, vector_sum, opposite_vector, multiple_vector}
use Rattle.rings.specs.Matrices.{Matrix, mapped, matrix_det, matrix_product, adjugate, multiple_matrix}
use Rattle.rings.proofs.Solver.{identity}
use Rattle.rings.proofs.Ordered.{factor}
open expr use {add as ◌+'◌, sub as ◌-'◌, mul as ◌*'◌, neg as neg', int as int'}

infixl 60 ◌+'◌
infixl 60 ◌-'◌
infixl 70 ◌*'◌
-- a matrix and two vectors of variables
abbrev n' : Matrix Expr
n' = (var 0, var 1, var 2, var 3)

-- the first vector
abbrev u' : Vector Expr
u' = (var 4, var 5)

-- the second vector
abbrev v' : Vector Expr
v' = (var 6, var 7)

module _ {R : Type 0} (O : Ops R) (L : IsRing O) where
  open O use {add as ◌⊕◌, sub as ◌⊖◌, mul as ◌⊗◌, neg as minus, int as num_of}

  infixl 60 ◌⊕◌
  infixl 60 ◌⊖◌
  infixl 70 ◌⊗◌
  -- ---- determinants
  -- det(n·u, n·v) = det(n)·det(u, v)
  pub det_mapped : (n : Matrix R) (u v : Vector R) → det O (mapped O n u) (mapped O n v) ≡ matrix_det O n ⊗ det O u v
  det_mapped n u v =
      identity O L (n.0 ∷ n.1 ∷ n.2 ∷ n.3 ∷ u.0 ∷ u.1 ∷ v.0 ∷ v.1 ∷ []) (det expr (mapped expr n' u') (mapped expr n' v')) (matrix_det expr n' *' det expr u' v') tt

  -- det(c·u, c·v) = c²·det(u, v)
  pub det_multiple : (c : R) (u v : Vector R) → det O (multiple_vector O c u) (multiple_vector O c v) ≡ (c ⊗ c) ⊗ det O u v
  det_multiple c u v =
      identity O L (c ∷ c ∷ c ∷ c ∷ u.0 ∷ u.1 ∷ v.0 ∷ v.1 ∷ [])
      (det expr (multiple_vector expr (var 0) u') (multiple_vector expr (var 0) v')) ((var 0 *' var 0) *' det expr u' v') tt

  -- c·x = n·u and c·y = n·v give c²·det(x, y) = det(n)·det(u, v)
  pub det_carried : (n : Matrix R) (c : R) (u v x y : Vector R) → multiple_vector O c x ≡ mapped O n u → multiple_vector O c y ≡ mapped O n v
      → (c ⊗ c) ⊗ det O x y ≡ matrix_det O n ⊗ det O u v
  det_carried n c u v x y e f = sym (det_multiple c x y) ∙ (λ i. det O (e i) (f i)) ∙ det_mapped n u v

  -- det(n·m) = det(n)·det(m)
  pub product_det : (n m : Matrix R) → matrix_det O (matrix_product O n m) ≡ matrix_det O n ⊗ matrix_det O m
  product_det n m =
      let m' : Matrix Expr = (var 4, var 5, var 6, var 7) in
      identity O L (n.0 ∷ n.1 ∷ n.2 ∷ n.3 ∷ m.0 ∷ m.1 ∷ m.2 ∷ m.3 ∷ []) (matrix_det expr (matrix_product expr n' m')) (matrix_det expr n' *' matrix_det expr m') tt

  -- det(c·n) = c²·det(n)
  pub multiple_det : (c : R) (n : Matrix R) → matrix_det O (multiple_matrix O c n) ≡ (c ⊗ c) ⊗ matrix_det O n
  multiple_det c n = identity O L (n.0 ∷ n.1 ∷ n.2 ∷ n.3 ∷ c ∷ []) (matrix_det expr (multiple_matrix expr (var 4) n')) ((var 4 *' var 4) *' matrix_det expr n') tt

  -- the adjugate has the same determinant
  pub adjugate_det : (n : Matrix R) → matrix_det O (adjugate O n) ≡ matrix_det O n
  adjugate_det n = identity O L (n.0 ∷ n.1 ∷ n.2 ∷ n.3 ∷ []) (matrix_det expr (adjugate expr n')) (matrix_det expr n') tt

  -- ---- images
  -- n·(m·v) = (n·m)·v
  pub mapped_twice : (n m : Matrix R) (v : Vector R) → mapped O n (mapped O m v) ≡ mapped O (matrix_product O n m) v
  mapped_twice n m v i = (one n.0 n.1 i, one n.2 n.3 i)
    where
      one : (p q : R) → p ⊗ (m.0 ⊗ v.0 ⊕ m.1 ⊗ v.1) ⊕ q ⊗ (m.2 ⊗ v.0 ⊕ m.3 ⊗ v.1) ≡ (p ⊗ m.0 ⊕ q ⊗ m.2) ⊗ v.0 ⊕ (p ⊗ m.1 ⊕ q ⊗ m.3) ⊗ v.1
      one p q =
          identity O L (m.0 ∷ m.1 ∷ m.2 ∷ m.3 ∷ v.0 ∷ v.1 ∷ p ∷ q ∷ [])
          (var 6 *' (var 0 *' var 4 +' var 1 *' var 5) +' var 7 *' (var 2 *' var 4 +' var 3 *' var 5))
          ((var 6 *' var 0 +' var 7 *' var 2) *' var 4 +' (var 6 *' var 1 +' var 7 *' var 3) *' var 5) tt

  -- n·(c·v) = c·(n·v)
  pub mapped_multiple : (n : Matrix R) (c : R) (v : Vector R) → mapped O n (multiple_vector O c v) ≡ multiple_vector O c (mapped O n v)
  mapped_multiple n c v i = (one n.0 n.1 i, one n.2 n.3 i)
    where
      one : (p q : R) → p ⊗ (c ⊗ v.0) ⊕ q ⊗ (c ⊗ v.1) ≡ c ⊗ (p ⊗ v.0 ⊕ q ⊗ v.1)
      one p q = identity O L (c ∷ p ∷ q ∷ v.0 ∷ v.1 ∷ []) (var 1 *' (var 0 *' var 3) +' var 2 *' (var 0 *' var 4)) (var 0 *' (var 1 *' var 3 +' var 2 *' var 4)) tt

  -- adj(n)·(n·v) = det(n)·v
  pub adjugate_mapped : (n : Matrix R) (v : Vector R) → mapped O (adjugate O n) (mapped O n v) ≡ multiple_vector O (matrix_det O n) v
  adjugate_mapped n v i =
      let values = n.0 ∷ n.1 ∷ n.2 ∷ n.3 ∷ v.0 ∷ v.1 ∷ [] in
      let image = mapped expr (adjugate expr n') (mapped expr n' u') in (
        identity O L values image.0 (matrix_det expr n' *' u'.0) tt i,
        identity O L values image.1 (matrix_det expr n' *' u'.1) tt i,
      )

  -- c·x = n·u and c·y = n·v give c·(x + y) = n·(u + v)
  pub sum_carried : (n : Matrix R) (c : R) (u v x y : Vector R) → multiple_vector O c x ≡ mapped O n u → multiple_vector O c y ≡ mapped O n v
      → multiple_vector O c (vector_sum O x y) ≡ mapped O n (vector_sum O u v)
  sum_carried n c u v x y e f i = (
    one x.0 y.0 n.0 n.1 (ap (λ (w : Vector R). w.0) e) (ap (λ (w : Vector R). w.0) f) i,
    one x.1 y.1 n.2 n.3 (ap (λ (w : Vector R). w.1) e) (ap (λ (w : Vector R). w.1) f) i,
  )
    where
      one : (s t p q : R) → c ⊗ s ≡ p ⊗ u.0 ⊕ q ⊗ u.1 → c ⊗ t ≡ p ⊗ v.0 ⊕ q ⊗ v.1 → c ⊗ (s ⊕ t) ≡ p ⊗ (u.0 ⊕ v.0) ⊕ q ⊗ (u.1 ⊕ v.1)
      one s t p q k j =
          identity O L (c ∷ s ∷ t ∷ []) (var 0 *' (var 1 +' var 2)) (var 0 *' var 1 +' var 0 *' var 2) tt ∙ (λ i. k i ⊕ j i)
          ∙ identity O L (p ∷ q ∷ u.0 ∷ u.1 ∷ v.0 ∷ v.1 ∷ []) ((var 0 *' var 2 +' var 1 *' var 3) +' (var 0 *' var 4 +' var 1 *' var 5))
          (var 0 *' (var 2 +' var 4) +' var 1 *' (var 3 +' var 5)) tt

  -- c·x = n·u gives c·(-x) = n·(-u)
  pub opposite_carried : (n : Matrix R) (c : R) (u x : Vector R) → multiple_vector O c x ≡ mapped O n u → multiple_vector O c (opposite_vector O x) ≡ mapped O n (opposite_vector O u)
  opposite_carried n c u x e i = (one x.0 n.0 n.1 (ap (λ (w : Vector R). w.0) e) i, one x.1 n.2 n.3 (ap (λ (w : Vector R). w.1) e) i)
    where
      one : (t p q : R) → c ⊗ t ≡ p ⊗ u.0 ⊕ q ⊗ u.1 → c ⊗ minus t ≡ p ⊗ minus u.0 ⊕ q ⊗ minus u.1
      one t p q k =
          identity O L (c ∷ t ∷ []) (var 0 *' neg' (var 1)) (neg' (var 0 *' var 1)) tt ∙ ap minus k
          ∙ identity O L (p ∷ q ∷ u.0 ∷ u.1 ∷ []) (neg' (var 0 *' var 2 +' var 1 *' var 3)) (var 0 *' neg' (var 2) +' var 1 *' neg' (var 3)) tt

  -- c·x = n·u and b·z = m·x give (b·c)·z = (m·n)·u
  pub composed : (n m : Matrix R) (c b : R) (u x z : Vector R) → multiple_vector O c x ≡ mapped O n u → multiple_vector O b z ≡ mapped O m x
      → multiple_vector O (b ⊗ c) z ≡ mapped O (matrix_product O m n) u
  composed n m c b u x z e f =
      (λ i. (front z.0 i, front z.1 i)) ∙ ap (multiple_vector O c) f ∙ sym (mapped_multiple m c x) ∙ ap (mapped O m) e ∙ mapped_twice m n u
    where
      front : (t : R) → (b ⊗ c) ⊗ t ≡ c ⊗ (b ⊗ t)
      front t = identity O L (b ∷ c ∷ t ∷ []) ((var 0 *' var 1) *' var 2) (var 1 *' (var 0 *' var 2)) tt

  -- c·x = n·u gives det(n)·u = (c·adj(n))·x
  pub inverted : (n : Matrix R) (c : R) (u x : Vector R) → multiple_vector O c x ≡ mapped O n u → multiple_vector O (matrix_det O n) u ≡ mapped O (multiple_matrix O c (adjugate O n)) x
  inverted n c u x e = sym (adjugate_mapped n u) ∙ ap (mapped O (adjugate O n)) (sym e) ∙ λ i. (
    identity O L (n.0 ∷ n.1 ∷ n.2 ∷ n.3 ∷ x.0 ∷ x.1 ∷ c ∷ []) (mapped expr (adjugate expr n') (multiple_vector expr (var 6) u')).0 (mapped expr (multiple_matrix expr (var 6) (adjugate expr n')) u').0 tt i,
    identity O L (n.0 ∷ n.1 ∷ n.2 ∷ n.3 ∷ x.0 ∷ x.1 ∷ c ∷ []) (mapped expr (adjugate expr n') (multiple_vector expr (var 6) u')).1 (mapped expr (multiple_matrix expr (var 6) (adjugate expr n')) u').1 tt i,
  )

  -- both sides times w: c·x = n·u gives (c·w)·x = (w·n)·u
  pub both_times : (n : Matrix R) (c w b : R) (u x : Vector R) → c ⊗ w ≡ b → multiple_vector O c x ≡ mapped O n u → multiple_vector O b x ≡ mapped O (multiple_matrix O w n) u
  both_times n c w b u x e f i = (one n.0 n.1 x.0 (ap (λ (t : Vector R). t.0) f) i, one n.2 n.3 x.1 (ap (λ (t : Vector R). t.1) f) i)
    where
      one : (p q t : R) → c ⊗ t ≡ p ⊗ u.0 ⊕ q ⊗ u.1 → b ⊗ t ≡ (w ⊗ p) ⊗ u.0 ⊕ (w ⊗ q) ⊗ u.1
      one p q t k =
          ap (λ y. y ⊗ t) (sym e) ∙ identity O L (c ∷ w ∷ t ∷ []) ((var 0 *' var 1) *' var 2) (var 1 *' (var 0 *' var 2)) tt ∙ ap (λ y. w ⊗ y) k
          ∙ identity O L (w ∷ p ∷ q ∷ u.0 ∷ u.1 ∷ []) (var 0 *' (var 1 *' var 3 +' var 2 *' var 4)) ((var 0 *' var 1) *' var 3 +' (var 0 *' var 2) *' var 4) tt

  module _ {P : R → Type 0} (Q : IsOrdered O P) where
    -- a matrix that carries a turn to the left to one has a positive determinant
    pub matrix_positive : (n : Matrix R) (c : R) (u v x y : Vector R) → P c → multiple_vector O c x ≡ mapped O n u → multiple_vector O c y ≡ mapped O n v
        → P (det O u v) → P (det O x y) → P (matrix_det O n)
    matrix_positive n c u v x y pc e f pu px =
        factor O L Q (matrix_det O n) (det O u v) (subst P (det_carried n c u v x y e f) (Q.product _ _ (Q.product c c pc pc) px)) pu

    -- and one that has carries each turn to the left to one
    pub turn_carried : (n : Matrix R) (c : R) (u v x y : Vector R) → P c → P (matrix_det O n) → multiple_vector O c x ≡ mapped O n u → multiple_vector O c y ≡ mapped O n v
        → P (det O u v) → P (det O x y)
    turn_carried n c u v x y pc pn e f pu =
        factor O L Q (det O x y) (c ⊗ c) (subst P (sym (det_carried n c u v x y e f) ∙ L.mul_comm _ _) (Q.product _ _ pn pu)) (Q.product c c pc pc)
