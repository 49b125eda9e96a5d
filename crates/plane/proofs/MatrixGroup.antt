-- Matrices over the field by their values: an equivalence that products respect, the unit, quotients, and determinants.
use Rattle.std.proofs.Common.{◌≡◌, ℕ, zero, suc, ◌*◌, ◌<◌, arith, refl, sym, ap, ◌∙◌, subst}
use mathlib.Core.Path.{ap₂}
use Rattle.std.specs.Prelude.{ℤ, pos, ◌*ℤ◌}
use Rattle.std.proofs.Math.Nat.{mul_assoc, mul-one, one-mul}
use Rattle.rings.specs.Matrices.{Matrix, matrix_det, matrix_product, multiple_matrix}
use Rattle.rings.proofs.WholeNumbers.{whole_ring}
use Rattle.quad_field.specs.declared.quad.Quad.{Quad}
use Rattle.quad_field.specs.Quads.{quad, quad_ops, scaled}
use Rattle.quad_field.proofs.CallerLemmas.{quad_ring, scaled_is}
use Rattle.plane.specs.Matrices.{FieldMatrix, identity, scaled_matrix, matrix_times, HaveOneValue, IsInverseOf}
use Rattle.plane.proofs.LowestTerms.{cancelled}
use Rattle.plane.proofs.MatrixRing as ring

-- a product of numbers above zero
pub product_some : (m n : ℕ) → 0 < m → 0 < n → 0 < m * n
product_some zero n p q = absurd (omega (arith, p))
product_some (suc m) zero p q = absurd (omega (arith, q))
product_some (suc m) (suc n) p q = omega arith

-- j·(k·x) = k·(j·x)
scaled_swap : (j k : ℤ) (x : Quad) → scaled j (scaled k x) ≡ scaled k (scaled j x)
scaled_swap j k x i = quad (part x.a i) (part x.b i)
  where
    part : (n : ℤ) → (n *ℤ k) *ℤ j ≡ (n *ℤ j) *ℤ k
    part n = whole_ring.mul_assoc n k j ∙ ap (λ (m : ℤ). n *ℤ m) (whole_ring.mul_comm k j) ∙ sym (whole_ring.mul_assoc n j k)

-- ---- one value
-- y·a = x·b and z·b = y·c give z·a = x·c
one_step : (x y z : ℕ) (a b c : Quad) → 0 < y → scaled (pos y) a ≡ scaled (pos x) b → scaled (pos z) b ≡ scaled (pos y) c → scaled (pos z) a ≡ scaled (pos x) c
one_step x y z a b c some e f =
    cancelled y (scaled (pos z) a) (scaled (pos x) c) some
    (scaled_swap (pos y) (pos z) a ∙ ap (scaled (pos z)) e ∙ scaled_swap (pos z) (pos x) b ∙ ap (scaled (pos x)) f ∙ scaled_swap (pos x) (pos y) c)

-- having one value is an equivalence
pub same_self : (a : FieldMatrix) → HaveOneValue a a
same_self a = refl

pub same_back : (a b : FieldMatrix) → HaveOneValue a b → HaveOneValue b a
same_back a b e = sym e

pub same_on : (a b c : FieldMatrix) → 0 < b.denominator → HaveOneValue a b → HaveOneValue b c → HaveOneValue a c
same_on a b c some e f i = (
  entry a.rows.0 b.rows.0 c.rows.0 (ap (λ (n : Matrix Quad). n.0) e) (ap (λ (n : Matrix Quad). n.0) f) i,
  entry a.rows.1 b.rows.1 c.rows.1 (ap (λ (n : Matrix Quad). n.1) e) (ap (λ (n : Matrix Quad). n.1) f) i,
  entry a.rows.2 b.rows.2 c.rows.2 (ap (λ (n : Matrix Quad). n.2) e) (ap (λ (n : Matrix Quad). n.2) f) i,
  entry a.rows.3 b.rows.3 c.rows.3 (ap (λ (n : Matrix Quad). n.3) e) (ap (λ (n : Matrix Quad). n.3) f) i,
)
  where
    entry : (p q r : Quad) → scaled (pos b.denominator) p ≡ scaled (pos a.denominator) q → scaled (pos c.denominator) q ≡ scaled (pos b.denominator) r
        → scaled (pos c.denominator) p ≡ scaled (pos a.denominator) r
    entry p q r = one_step a.denominator b.denominator c.denominator p q r some

module _ (d : ℕ) where
  -- a multiple by a whole number is one in the ring
  pub scaled_rows : (k : ℤ) (n : Matrix Quad) → scaled_matrix k n ≡ multiple_matrix (quad_ops d) ((quad_ops d).int k) n
  scaled_rows k n i = (scaled_is d k n.0 i, scaled_is d k n.1 i, scaled_is d k n.2 i, scaled_is d k n.3 i)

  -- (y·z)·(a·c) = (y·a)·(z·c)
  spread : (y z : ℕ) (a c : Matrix Quad)
      → scaled_matrix (pos (y * z)) (matrix_product (quad_ops d) a c) ≡ matrix_product (quad_ops d) (scaled_matrix (pos y) a) (scaled_matrix (pos z) c)
  spread y z a c =
      scaled_rows (pos (y * z)) (matrix_product (quad_ops d) a c)
      ∙ ap (λ (u : Quad). multiple_matrix (quad_ops d) u (matrix_product (quad_ops d) a c)) ((quad_ring d).int-mul (pos y) (pos z))
      ∙ ring.product_multiples (quad_ops d) (quad_ring d) a c ((quad_ops d).int (pos y)) ((quad_ops d).int (pos z))
      ∙ ap₂ (matrix_product (quad_ops d)) (sym (scaled_rows (pos y) a)) (sym (scaled_rows (pos z) c))

  -- ---- products
  -- products have one value where their factors have
  pub same_times : (a b c e : FieldMatrix) → HaveOneValue a b → HaveOneValue c e → HaveOneValue (matrix_times d a c) (matrix_times d b e)
  same_times a b c e p q =
      spread b.denominator e.denominator a.rows c.rows ∙ ap₂ (matrix_product (quad_ops d)) p q ∙ sym (spread a.denominator c.denominator b.rows e.rows)

  -- (a·b)·c = a·(b·c), also by rows and denominators
  pub times_assoc : (a b c : FieldMatrix) → matrix_times d (matrix_times d a b) c ≡ matrix_times d a (matrix_times d b c)
  times_assoc a b c i = record {
    rows = ring.product_assoc (quad_ops d) (quad_ring d) a.rows b.rows c.rows i;
    denominator = mul_assoc a.denominator b.denominator c.denominator i;
  }

  -- 1·a = a and a·1 = a
  pub one_times : (a : FieldMatrix) → matrix_times d identity a ≡ a
  one_times a i = record { rows = ring.unit_product (quad_ops d) (quad_ring d) a.rows i; denominator = one-mul a.denominator i }

  pub times_one : (a : FieldMatrix) → matrix_times d a identity ≡ a
  times_one a i = record { rows = ring.product_unit (quad_ops d) (quad_ring d) a.rows i; denominator = mul-one a.denominator i }

  -- with i·k = 1, (h·g)·i is the x with x·k = h·g
  pub quotient_is : (x p h g k i : FieldMatrix) → 0 < p.denominator → 0 < k.denominator → 0 < i.denominator
      → HaveOneValue (matrix_times d h g) p → HaveOneValue (matrix_times d p i) x → HaveOneValue (matrix_times d i k) identity
      → HaveOneValue (matrix_times d x k) (matrix_times d h g)
  quotient_is x p h g k i pp pk pi hg px ik =
      same_on (matrix_times d x k) (matrix_times d (matrix_times d p i) k) (matrix_times d h g)
      (product_some (p.denominator * i.denominator) k.denominator (product_some p.denominator i.denominator pp pi) pk)
      (same_times x (matrix_times d p i) k k (sym px) refl)
      (subst (λ (u : FieldMatrix). HaveOneValue u (matrix_times d h g)) (sym (times_assoc p i k))
      (same_on (matrix_times d p (matrix_times d i k)) p (matrix_times d h g) pp
      (subst (HaveOneValue (matrix_times d p (matrix_times d i k))) (times_one p) (same_times p p (matrix_times d i k) identity refl ik)) (sym hg)))

  -- x·k = y·k gives x = y where k·i = 1
  pub cancel_right : (x y k i : FieldMatrix) → 0 < x.denominator → 0 < y.denominator → 0 < k.denominator → 0 < i.denominator
      → HaveOneValue (matrix_times d k i) identity → HaveOneValue (matrix_times d x k) (matrix_times d y k) → HaveOneValue x y
  cancel_right x y k i px py pk pi ki e =
      same_on x (matrix_times d (matrix_times d x k) i) y (product_some (x.denominator * k.denominator) i.denominator (product_some x.denominator k.denominator px pk) pi)
      (sym (undone x))
      (same_on (matrix_times d (matrix_times d x k) i) (matrix_times d (matrix_times d y k) i) y
      (product_some (y.denominator * k.denominator) i.denominator (product_some y.denominator k.denominator py pk) pi)
      (same_times (matrix_times d x k) (matrix_times d y k) i i e refl) (undone y))
    where
      undone : (x : FieldMatrix) → HaveOneValue (matrix_times d (matrix_times d x k) i) x
      undone x =
          subst (λ (u : FieldMatrix). HaveOneValue u x) (sym (times_assoc x k i))
          (subst (HaveOneValue (matrix_times d x (matrix_times d k i))) (times_one x) (same_times x x (matrix_times d k i) identity refl ki))

  -- what has the value of an inverse is one
  pub inverse_same : (a b c : FieldMatrix) → 0 < a.denominator → 0 < b.denominator → HaveOneValue a c → IsInverseOf d a b → IsInverseOf d c b
  inverse_same a b c pa pb e inverse = (
    same_on (matrix_times d c b) (matrix_times d a b) identity (product_some a.denominator b.denominator pa pb) (same_times c a b b (sym e) refl) inverse.0,
    same_on (matrix_times d b c) (matrix_times d b a) identity (product_some b.denominator a.denominator pb pa) (same_times b b c a refl (sym e)) inverse.1,
  )

  -- a matrix has the values of one inverse only
  pub one_inverse : (a b c : FieldMatrix) → 0 < a.denominator → 0 < b.denominator → 0 < c.denominator → IsInverseOf d b a → IsInverseOf d c a → HaveOneValue b c
  one_inverse a b c pa pb pc left right =
      cancel_right b c a b pb pc pa pb left.1
      (same_on (matrix_times d b a) identity (matrix_times d c a) (omega arith) left.0 (sym right.0))

  -- the adjugate times the denominator and k
  abbrev pub inverse_rows : FieldMatrix → Quad → Matrix Quad
  inverse_rows a k = ring.scaled_adjugate (quad_ops d) ((quad_ops d).int (pos a.denominator)) k a.rows

  -- with det(a)·k a whole number w, these rows over w are an inverse
  pub adjugate_inverse : (a : FieldMatrix) (k : Quad) (w : ℕ) → (quad_ops d).mul (matrix_det (quad_ops d) a.rows) k ≡ (quad_ops d).int (pos w)
      → IsInverseOf d (record { rows = inverse_rows a k; denominator = w }) a
  adjugate_inverse a k w e = (
    scaled_rows (pos 1) (matrix_product (quad_ops d) (inverse_rows a k) a.rows)
        ∙ ring.adjugate_product (quad_ops d) (quad_ring d) a.rows ((quad_ops d).int (pos a.denominator)) k ((quad_ops d).int (pos w)) e
        ∙ ap (λ (u : Quad). multiple_matrix (quad_ops d) u (ring.unit_matrix (quad_ops d))) (sym ((quad_ring d).int-mul (pos w) (pos a.denominator)))
        ∙ sym (scaled_rows (pos (w * a.denominator)) identity.rows),
    scaled_rows (pos 1) (matrix_product (quad_ops d) a.rows (inverse_rows a k))
        ∙ ring.product_adjugate (quad_ops d) (quad_ring d) a.rows ((quad_ops d).int (pos a.denominator)) k ((quad_ops d).int (pos w)) e
        ∙ ap (λ (u : Quad). multiple_matrix (quad_ops d) u (ring.unit_matrix (quad_ops d))) (sym ((quad_ring d).int-mul (pos a.denominator) (pos w)))
        ∙ sym (scaled_rows (pos (a.denominator * w)) identity.rows),
  )
