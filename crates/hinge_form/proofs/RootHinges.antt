-- The arithmetic of small K-integers in 64 bits and in 128, and the triples of hinges of such.
use Rattle.std.proofs.Common.{◌≡◌, ℕ, zero, suc, ◌+◌, ◌*◌, ◌^◌, ◌<◌, ◌≤◌, [], ◌∷◌, arith, ap, sym, subst, ◌∙◌}
use Rattle.std.specs.Prelude.{ℤ, pos, ◌+ℤ◌, ◌-ℤ◌, ◌*ℤ◌, unsigned_abs}
use Rattle.std.proofs.lemmas.Int.{ints}
use Rattle.std.proofs.lemmas.Nat.{mul-le}
use Rattle.rings.specs.Ring.{Expr, var, expr, whole_ops}
use Rattle.rings.specs.Forms.{hinge_triple}
use Rattle.rings.proofs.Solver.{identity}
use Rattle.rings.proofs.WholeNumbers.{whole_ring}
use Rattle.quad_field.specs.declared.quad.Quad.{Quad}
use Rattle.quad_field.specs.Quads.{quad, quad_ops, product}
use Rattle.quad_field.specs.Width.{term_ops}
use Rattle.plane.specs.Vectors.{Vector}
use Rattle.hinge_form.specs.Triples.{AllThreeFit}
use Rattle.hinge_form.specs.Hinges.{vector_leaves}
use Rattle.hinge_form.specs.Small.{IsWithin, PartsWithin, VectorWithin, FactorsWithin}
use Rattle.hinge_form.proofs.WholeTerms.{times_size}
use Rattle.hinge_form.proofs.SmallHinges.{read, read_128, read_small, read_wide, Stands, stands}
use Rattle.hinge_form.proofs.RootTerms.{span, root_steps, whole_part, root_part, difference_within}

sum_size : (m n : ℤ) (a b : ℕ) → unsigned_abs m ≤ a → unsigned_abs n ≤ b → unsigned_abs (m +ℤ n) ≤ a + b
sum_size m n a b s t = omega (arith, ints)

difference_size : (m n : ℤ) (a b : ℕ) → unsigned_abs m ≤ a → unsigned_abs n ≤ b → unsigned_abs (m -ℤ n) ≤ a + b
difference_size m n a b s t = omega (arith, ints)

natural_size : (d : ℕ) → d ≤ 1000 → unsigned_abs (pos d) ≤ 1000
natural_size d h = omega (arith, ints)

-- the order of three factors
scaled_last : (a b c e d : ℤ) → a *ℤ c +ℤ b *ℤ (d *ℤ e) ≡ a *ℤ c +ℤ d *ℤ (b *ℤ e)
scaled_last a b c e d =
    identity whole_ops whole_ring (a ∷ b ∷ c ∷ e ∷ d ∷ []) (expr.add (expr.mul (var 0) (var 2)) (expr.mul (var 1) (expr.mul (var 4) (var 3))))
    (expr.add (expr.mul (var 0) (var 2)) (expr.mul (var 4) (expr.mul (var 1) (var 3)))) tt

-- ---- a product in 64 bits
module _ (d : ℕ) (x y : Quad) (k : ℤ) (field : d ≤ 1000) (f : FactorsWithin (2 ^ 62) x y) (is : k ≡ pos d) where
  abbrev m : ℕ
  m = f.first

  abbrev n : ℕ
  n = f.second

  low_first : m ≤ 2 ^ 62
  low_first = omega (arith, f.low, mul-le m 1 m n (omega arith) f.some_second)

  low_second : 1000 * n ≤ 2 ^ 62
  low_second = omega (arith, f.low, mul-le 1 n m n f.some_first (omega arith))

  read_k : read k ≡ pos d
  read_k = ap read is ∙ read_small (pos d) 1000 (natural_size d field) (omega arith)

  read_of : (z : ℤ) → unsigned_abs z ≤ n → read z ≡ z
  read_of z s = read_small z n s (omega (arith, low_second))

  read_own : (z : ℤ) → unsigned_abs z ≤ m → read z ≡ z
  read_own z s = read_small z m s low_first

  pair : (u v : ℤ) → unsigned_abs u ≤ m → unsigned_abs v ≤ n → Stands (read u *ℤ read v) (u *ℤ v) (m * n)
  pair u v s t = stands _ (u *ℤ v) (m * n) (λ i. read_own u s i *ℤ read_of v t i) (times_size u v m n s t) (omega (arith, f.low))

  pub first_stands : Stands (read x.a *ℤ read y.a) (x.a *ℤ y.a) (m * n)
  first_stands = pair x.a y.a f.of_first.0 f.of_second.0

  pub cross_stands : Stands (read x.a *ℤ read y.b) (x.a *ℤ y.b) (m * n)
  cross_stands = pair x.a y.b f.of_first.0 f.of_second.1

  pub other_stands : Stands (read x.b *ℤ read y.a) (x.b *ℤ y.a) (m * n)
  other_stands = pair x.b y.a f.of_first.1 f.of_second.0

  pub scaled_stands : Stands (read k *ℤ read y.b) (pos d *ℤ y.b) (1000 * n)
  scaled_stands =
      stands _ (pos d *ℤ y.b) (1000 * n) (λ i. read_k i *ℤ read_of y.b f.of_second.1 i) (times_size (pos d) y.b 1000 n (natural_size d field) f.of_second.1) low_second

  roots_size : unsigned_abs (x.b *ℤ (pos d *ℤ y.b)) ≤ 1000 * (m * n)
  roots_size = omega (arith, times_size x.b (pos d *ℤ y.b) m (1000 * n) f.of_first.1 (times_size (pos d) y.b 1000 n (natural_size d field) f.of_second.1))

  pub roots_stand : Stands (read x.b *ℤ read (read k *ℤ read y.b)) (x.b *ℤ (pos d *ℤ y.b)) (1000 * (m * n))
  roots_stand = stands _ (x.b *ℤ (pos d *ℤ y.b)) (1000 * (m * n)) (λ i. read_own x.b f.of_first.1 i *ℤ scaled_stands.exact i) roots_size (omega (arith, f.low))

  pub whole_stands : Stands (read (read x.a *ℤ read y.a) +ℤ read (read x.b *ℤ read (read k *ℤ read y.b))) (product d x y).a (1001 * (m * n))
  whole_stands =
      stands _ (product d x y).a (1001 * (m * n)) ((λ i. first_stands.exact i +ℤ roots_stand.exact i) ∙ scaled_last x.a x.b y.a y.b (pos d))
      (whole_part d x y m n field f.of_first f.of_second) f.low

  pub root_stands : Stands (read (read x.a *ℤ read y.b) +ℤ read (read x.b *ℤ read y.a)) (product d x y).b (1001 * (m * n))
  root_stands =
      stands _ (product d x y).b (1001 * (m * n)) (λ i. cross_stands.exact i +ℤ other_stands.exact i)
      (root_part d x y m n field f.of_first f.of_second) f.low

  pub product_read : quad (read (read (read x.a *ℤ read y.a) +ℤ read (read x.b *ℤ read (read k *ℤ read y.b)))) (read (read (read x.a *ℤ read y.b) +ℤ read (read x.b *ℤ read y.a))) ≡ product d x y
  product_read = λ i. quad (whole_stands.exact i) (root_stands.exact i)

-- ---- sizes
pub product_small : (d m n r : ℕ) (x y z : Quad) → d ≤ 1000 → z ≡ product d x y → PartsWithin m x → PartsWithin n y → 1001 * (m * n) ≤ r → PartsWithin r z
product_small d m n r x y z field e s t h =
    subst (PartsWithin r) (sym e) (omega (arith, h, whole_part d x y m n field s t), omega (arith, h, root_part d x y m n field s t))

pub difference_small : (d r s t : ℕ) (x y z : Quad) → z ≡ (quad_ops d).sub x y → PartsWithin r x → PartsWithin s y → r + s ≤ t → PartsWithin t z
difference_small d r s t x y z e p q h =
    let both = difference_within x y r s d p q in
    subst (PartsWithin t) (sym e) (omega (arith, h, both.0), omega (arith, h, both.1))

pub smaller : (r s : ℕ) (x : Quad) → PartsWithin r x → r ≤ s → PartsWithin s x
smaller r s x p h = (omega (arith, h, p.0), omega (arith, h, p.1))

-- ---- differences and products in 128 bits
pub difference_read : (x y : Quad) → PartsWithin (2 ^ 120) x → PartsWithin (2 ^ 120) y
    → quad (read_128 (read_128 x.a -ℤ read_128 y.a)) (read_128 (read_128 x.b -ℤ read_128 y.b)) ≡ (quad_ops 0).sub x y
difference_read x y p q = λ i. quad (part x.a y.a p.0 q.0 i) (part x.b y.b p.1 q.1 i)
  where
    part : (m n : ℤ) → IsWithin (2 ^ 120) m → IsWithin (2 ^ 120) n → read_128 (read_128 m -ℤ read_128 n) ≡ m -ℤ n
    part m n s t =
        ap read_128 (λ i. read_wide m (2 ^ 120) s (omega arith) i -ℤ read_wide n (2 ^ 120) t (omega arith) i)
        ∙ read_wide (m -ℤ n) (2 ^ 120 + 2 ^ 120) (difference_size m n (2 ^ 120) (2 ^ 120) s t) (omega arith)

module _ (d : ℕ) (x y : Quad) (k : ℤ) (field : d ≤ 1000) (first : PartsWithin (2 ^ 57) x) (second : PartsWithin (2 ^ 12) y) (is : k ≡ pos d)
    (t u v w : ℤ) (et : t ≡ read x.a *ℤ read y.a) (eu : u ≡ read x.b *ℤ read (read k *ℤ read y.b)) (ev : v ≡ read x.a *ℤ read y.b) (ew : w ≡ read x.b *ℤ read y.a) where
  own : (z : ℤ) → IsWithin (2 ^ 57) z → read z ≡ z
  own z s = read_small z (2 ^ 57) s (omega arith)

  of_second : (z : ℤ) → IsWithin (2 ^ 12) z → read z ≡ z
  of_second z s = read_small z (2 ^ 12) s (omega arith)

  d_size : IsWithin 1000 (pos d)
  d_size = natural_size d field

  scaled_size : IsWithin (1000 * 2 ^ 12) (pos d *ℤ y.b)
  scaled_size = times_size (pos d) y.b 1000 (2 ^ 12) d_size second.1

  read_scaled : read (read k *ℤ read y.b) ≡ pos d *ℤ y.b
  read_scaled =
      ap read (λ i. (ap read is ∙ read_small (pos d) 1000 d_size (omega arith)) i *ℤ of_second y.b second.1 i)
      ∙ read_small (pos d *ℤ y.b) (1000 * 2 ^ 12) scaled_size (omega arith)

  t_is : t ≡ x.a *ℤ y.a
  t_is = et ∙ λ i. own x.a first.0 i *ℤ of_second y.a second.0 i

  u_is : u ≡ x.b *ℤ (pos d *ℤ y.b)
  u_is = eu ∙ λ i. own x.b first.1 i *ℤ read_scaled i

  v_is : v ≡ x.a *ℤ y.b
  v_is = ev ∙ λ i. own x.a first.0 i *ℤ of_second y.b second.1 i

  w_is : w ≡ x.b *ℤ y.a
  w_is = ew ∙ λ i. own x.b first.1 i *ℤ of_second y.a second.0 i

  t_size : IsWithin (2 ^ 57 * 2 ^ 12) (x.a *ℤ y.a)
  t_size = times_size x.a y.a (2 ^ 57) (2 ^ 12) first.0 second.0

  u_size : IsWithin (2 ^ 57 * (1000 * 2 ^ 12)) (x.b *ℤ (pos d *ℤ y.b))
  u_size = times_size x.b (pos d *ℤ y.b) (2 ^ 57) (1000 * 2 ^ 12) first.1 scaled_size

  v_size : IsWithin (2 ^ 57 * 2 ^ 12) (x.a *ℤ y.b)
  v_size = times_size x.a y.b (2 ^ 57) (2 ^ 12) first.0 second.1

  w_size : IsWithin (2 ^ 57 * 2 ^ 12) (x.b *ℤ y.a)
  w_size = times_size x.b y.a (2 ^ 57) (2 ^ 12) first.1 second.0

  back : (c z : ℤ) (r : ℕ) → c ≡ z → unsigned_abs z ≤ r → r ≤ 2 ^ 120 → read_128 c ≡ z
  back c z r e s h = ap read_128 e ∙ read_wide z r s (omega (arith, h))

  low : (c z : ℤ) (r : ℕ) → c ≡ z → unsigned_abs z ≤ r → r ≤ 2 ^ 120 → IsWithin (2 ^ 120) (read_128 c)
  low c z r e s h = subst (IsWithin (2 ^ 120)) (sym (back c z r e s h)) (omega (arith, s, h))

  pub whole_small : IsWithin (2 ^ 120) (read_128 t) × IsWithin (2 ^ 120) (read_128 u)
  whole_small = (low t _ _ t_is t_size (omega arith), low u _ _ u_is u_size (omega arith))

  pub root_small : IsWithin (2 ^ 120) (read_128 v) × IsWithin (2 ^ 120) (read_128 w)
  root_small = (low v _ _ v_is v_size (omega arith), low w _ _ w_is w_size (omega arith))

  module _ (p q : ℤ) (ep : p ≡ read_128 t +ℤ read_128 u) (eq : q ≡ read_128 v +ℤ read_128 w) where
    p_is : p ≡ (product d x y).a
    p_is = ep ∙ (λ i. back t _ _ t_is t_size (omega arith) i +ℤ back u _ _ u_is u_size (omega arith) i) ∙ scaled_last x.a x.b y.a y.b (pos d)

    q_is : q ≡ (product d x y).b
    q_is = eq ∙ λ i. back v _ _ v_is v_size (omega arith) i +ℤ back w _ _ w_is w_size (omega arith) i

    pub long_read : quad (read_128 p) (read_128 q) ≡ product d x y
    long_read = λ i. quad
        (back p _ _ p_is (whole_part d x y (2 ^ 57) (2 ^ 12) field first second) (omega arith) i)
        (back q _ _ q_is (root_part d x y (2 ^ 57) (2 ^ 12) field first second) (omega arith) i)

-- ---- the six coordinates of a hinge
module _ (b : ℕ) (k l m n p q : Quad) (s₀ : PartsWithin b k) (s₁ : PartsWithin b l) (s₂ : PartsWithin b m) (s₃ : PartsWithin b n) (s₄ : PartsWithin b p) (s₅ : PartsWithin b q) where
  -- they are the values of the variables
  abbrev pub six_quads : ℕ → Quad
  six_quads zero = k
  six_quads (suc zero) = l
  six_quads (suc (suc zero)) = m
  six_quads (suc (suc (suc zero))) = n
  six_quads (suc (suc (suc (suc zero)))) = p
  six_quads (suc (suc (suc (suc (suc i))))) = q

  pub six_within : (i : ℕ) → PartsWithin b (six_quads i)
  six_within zero = s₀
  six_within (suc zero) = s₁
  six_within (suc (suc zero)) = s₂
  six_within (suc (suc (suc zero))) = s₃
  six_within (suc (suc (suc (suc zero)))) = s₄
  six_within (suc (suc (suc (suc (suc i))))) = s₅

pub rooted_fits : (d : ℕ) (a c e : Vector Quad) → d ≤ 1000 → VectorWithin (2 ^ 12) a → VectorWithin (2 ^ 12) c → VectorWithin (2 ^ 12) e
    → AllThreeFit d (hinge_triple term_ops (vector_leaves a) (vector_leaves c) (vector_leaves e))
rooted_fits d a c e field sa sc se =
    let w : ℕ → Quad = six_quads (2 ^ 12) a.0 a.1 c.0 c.1 e.0 e.1 sa.0 sa.1 sc.0 sc.1 se.0 se.1 in
    let small : (i : ℕ) → PartsWithin (2 ^ 12) (w i) = six_within (2 ^ 12) a.0 a.1 c.0 c.1 e.0 e.1 sa.0 sa.1 sc.0 sc.1 se.0 se.1 in
    let formula : Expr × Expr × Expr = hinge_triple expr (var 0, var 1) (var 2, var 3) (var 4, var 5) in
    let first : span (2 ^ 12) formula.0 < 2 ^ 127 = omega arith in
    let second : span (2 ^ 12) formula.1 < 2 ^ 127 = omega arith in
    let third : span (2 ^ 12) formula.2 < 2 ^ 127 = omega arith in
    (root_steps (2 ^ 12) (omega arith) d field w small formula.0 first, root_steps (2 ^ 12) (omega arith) d field w small formula.1 second, root_steps (2 ^ 12) (omega arith) d field w small formula.2 third)
