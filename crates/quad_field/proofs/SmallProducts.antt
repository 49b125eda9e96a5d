-- No step of a product of small numbers is wide.
use Rattle.std.proofs.Common.{◌≡◌, ℕ, ◌+◌, ◌*◌, ◌^◌, ◌<◌, ◌≤◌, ◌↔◌, IsTrue, Bool, true, false, ◌&&◌, [], ◌∷◌, to_z, of_z, arith, refl, ap, sym, subst, ◌∙◌}
use Rattle.std.specs.Prelude.{ℤ, pos, ◌+ℤ◌, ◌*ℤ◌, unsigned_abs, FitsSigned}
use Rattle.std.specs.Int.{w64, w128}
use Rattle.std.proofs.lemmas.Int.{ints, unsigned_abs-mul, to_z-of_z}
use mathlib.Core.Path.{subst₂}
use Rattle.std.proofs.lemmas.Nat.{mul-le}
use Rattle.rings.specs.Ring.{var, expr, whole_ops}
use Rattle.rings.proofs.Solver.{identity}
use Rattle.rings.proofs.WholeNumbers.{whole_ring}
use Rattle.quad_field.specs.declared.quad.Quad.{Quad}
use Rattle.quad_field.specs.Quads.{quad, product}
use Rattle.quad_field.specs.Width.{FitsI128, AllFit, product_steps}
use Rattle.quad_field.specs.Checked.{IsSmall, AreSmall, AreSmallAndWhole}

-- ---- sizes
small_size : (n : ℤ) → IsSmall n → unsigned_abs n ≤ 2 ^ 53
small_size n s = omega (arith, ints)

zero_small : IsSmall (pos 0)
zero_small = (omega (arith, ints), omega (arith, ints))

fits_by_size : (n : ℤ) → unsigned_abs n < 2 ^ 127 → FitsI128 n
fits_by_size n h = omega (arith, ints)

times_size : (m n : ℤ) → IsSmall m → IsSmall n → unsigned_abs (m *ℤ n) ≤ 2 ^ 106
times_size m n s t = omega (arith, unsigned_abs-mul m n, mul-le (unsigned_abs m) (unsigned_abs n) (2 ^ 53) (2 ^ 53) (small_size m s) (small_size n t))

scaled_size : (d : ℕ) (n : ℤ) → d ≤ 1000000 → unsigned_abs n ≤ 2 ^ 106 → unsigned_abs (pos d *ℤ n) ≤ 1000000 * 2 ^ 106
scaled_size d n small h = omega (arith, unsigned_abs-mul (pos d) n, mul-le d (unsigned_abs n) 1000000 (2 ^ 106) small h)

sum_size : (m n : ℤ) → unsigned_abs (m +ℤ n) ≤ unsigned_abs m + unsigned_abs n
sum_size m n = omega (arith, ints)

-- ---- a product of whole numbers
whole_alone : (d : ℕ) (n : ℤ) → n ≡ n +ℤ (pos d *ℤ (pos 0 *ℤ pos 0))
whole_alone d n = identity whole_ops whole_ring (n ∷ pos d ∷ []) (var 0) (expr.add (var 0) (expr.mul (var 1) (expr.mul (expr.int (pos 0)) (expr.int (pos 0))))) tt

no_root : (m n : ℤ) → pos 0 ≡ (m *ℤ pos 0) +ℤ (pos 0 *ℤ n)
no_root m n = identity whole_ops whole_ring (m ∷ n ∷ []) (expr.int (pos 0)) (expr.add (expr.mul (var 0) (expr.int (pos 0))) (expr.mul (expr.int (pos 0)) (var 1))) tt

-- ---- the seven steps of a product
module _ (d : ℕ) (x y : Quad) (field : d ≤ 1000000) (small : AreSmall x y) where
  ac : unsigned_abs (x.a *ℤ y.a) ≤ 2 ^ 106
  ac = times_size x.a y.a small.0 small.2

  bd : unsigned_abs (x.b *ℤ y.b) ≤ 2 ^ 106
  bd = times_size x.b y.b small.1 small.3

  scaled : unsigned_abs (pos d *ℤ (x.b *ℤ y.b)) ≤ 1000000 * 2 ^ 106
  scaled = scaled_size d (x.b *ℤ y.b) field bd

  ad : unsigned_abs (x.a *ℤ y.b) ≤ 2 ^ 106
  ad = times_size x.a y.b small.0 small.3

  bc : unsigned_abs (x.b *ℤ y.a) ≤ 2 ^ 106
  bc = times_size x.b y.a small.1 small.2

  pub small_steps : AllFit (product_steps d x y)
  small_steps = (
    fits_by_size _ (omega (arith, ac)),
    (
      fits_by_size _ (omega (arith, bd)),
      (
        fits_by_size _ (omega (arith, scaled)),
        (
          fits_by_size _ (omega (arith, ac, scaled, sum_size (x.a *ℤ y.a) (pos d *ℤ (x.b *ℤ y.b)))),
          (
            fits_by_size _ (omega (arith, ad)),
            (
              fits_by_size _ (omega (arith, bc)),
              (fits_by_size _ (omega (arith, ad, bc, sum_size (x.a *ℤ y.b) (x.b *ℤ y.a))), tt),
            ),
          ),
        ),
      ),
    ),
  )

-- ---- what is read back
-- a number of the code, of 128 bits and of 64
abbrev read : ℤ → ℤ
read n = to_z w128 (of_z w128 n)

abbrev read_64 : ℤ → ℤ
read_64 n = to_z w64 (of_z w64 n)

read_as : (n m : ℤ) → n ≡ m → FitsI128 m → read n ≡ m
read_as n m e f = ap read e ∙ to_z-of_z w128 m f

-- a small number stays as it is in 64 bits
narrow_as : (n m : ℤ) → IsSmall m → n ≡ read m → read_64 n ≡ m
narrow_as n m s e =
    let f : FitsI128 m = fits_by_size m (omega (arith, small_size m s)) in
    let g : FitsSigned w64 m = omega (arith, ints, small_size m s) in
    ap read_64 (e ∙ to_z-of_z w128 m f) ∙ to_z-of_z w64 m g

-- and so does a product of two
times_as : (m n k l p : ℤ) → IsSmall m → IsSmall n → k ≡ read m → l ≡ read n → p ≡ read_64 k *ℤ read_64 l → p ≡ m *ℤ n
times_as m n k l p s t e f g = g ∙ λ i. narrow_as k m s e i *ℤ narrow_as l n t f i

-- the product of two small whole numbers
module _ (d : ℕ) (x y : Quad) (w : AreSmallAndWhole x y) where
  pub small_from_whole : AreSmall x y
  small_from_whole = (w.1, subst IsSmall (sym w.0.0) zero_small, w.2, subst IsSmall (sym w.0.1) zero_small)

  pub whole_read : (a c p : ℤ) → a ≡ read x.a → c ≡ read y.a → p ≡ read_64 a *ℤ read_64 c → quad (read p) (pos 0) ≡ product d x y
  whole_read a c p is_a is_c is_p =
      let first : read p ≡ x.a *ℤ y.a =
      read_as p (x.a *ℤ y.a) (times_as x.a y.a a c p w.1 w.2 is_a is_c is_p) (fits_by_size (x.a *ℤ y.a) (omega (arith, times_size x.a y.a w.1 w.2))) in
      subst₂ (λ m n. quad (read p) (pos 0) ≡ product d (quad x.a m) (quad y.a n)) (sym w.0.0) (sym w.0.1)
      (λ i. quad ((first ∙ whole_alone d (x.a *ℤ y.a)) i) (no_root x.a y.a i))

module _ (d : ℕ) (x y : Quad) (field : d ≤ 1000000) (small : AreSmall x y) (a b c e : ℤ)
    (is_a : a ≡ read x.a) (is_b : b ≡ read x.b) (is_c : c ≡ read y.a) (is_e : e ≡ read y.b) where
  steps : AllFit (product_steps d x y)
  steps = small_steps d x y field small

  module _ (p q r s k : ℤ) (is_p : p ≡ read_64 a *ℤ read_64 c) (is_q : q ≡ read_64 b *ℤ read_64 e) (is_r : r ≡ read_64 a *ℤ read_64 e) (is_s : s ≡ read_64 b *ℤ read_64 c) (is_k : k ≡ pos d) where
    first : read p ≡ x.a *ℤ y.a
    first = read_as p (x.a *ℤ y.a) (times_as x.a y.a a c p small.0 small.2 is_a is_c is_p) steps.0

    second : read q ≡ x.b *ℤ y.b
    second = read_as q (x.b *ℤ y.b) (times_as x.b y.b b e q small.1 small.3 is_b is_e is_q) steps.1.0

    third : read r ≡ x.a *ℤ y.b
    third = read_as r (x.a *ℤ y.b) (times_as x.a y.b a e r small.0 small.3 is_a is_e is_r) steps.1.1.1.1.0

    fourth : read s ≡ x.b *ℤ y.a
    fourth = read_as s (x.b *ℤ y.a) (times_as x.b y.a b c s small.1 small.2 is_b is_c is_s) steps.1.1.1.1.1.0

    scaled_is : read k *ℤ read q ≡ pos d *ℤ (x.b *ℤ y.b)
    scaled_is = λ i. read_as k (pos d) is_k (fits_by_size (pos d) (omega (arith, field))) i *ℤ second i

    whole_is : read p +ℤ read (read k *ℤ read q) ≡ (product d x y).a
    whole_is = λ i. first i +ℤ read_as (read k *ℤ read q) (pos d *ℤ (x.b *ℤ y.b)) scaled_is steps.1.1.0 i

    root_is : read r +ℤ read s ≡ (product d x y).b
    root_is = λ i. third i +ℤ fourth i

    pub scaled_fits : FitsSigned w128 (read k *ℤ read q)
    scaled_fits = subst FitsI128 (sym scaled_is) steps.1.1.0

    pub whole_fits : FitsSigned w128 (read p +ℤ read (read k *ℤ read q))
    whole_fits = subst FitsI128 (sym whole_is) steps.1.1.1.0

    pub root_fits : FitsSigned w128 (read r +ℤ read s)
    root_fits = subst FitsI128 (sym root_is) steps.1.1.1.1.1.1.0

    pub product_read : quad (read (read p +ℤ read (read k *ℤ read q))) (read (read r +ℤ read s)) ≡ product d x y
    product_read = λ i. quad
        (read_as (read p +ℤ read (read k *ℤ read q)) (product d x y).a whole_is steps.1.1.1.0 i)
        (read_as (read r +ℤ read s) (product d x y).b root_is steps.1.1.1.1.1.1.0 i)

-- ---- a test of four parts
pub and_both : (p q : Bool) (P Q : Type 0) → (IsTrue p ↔ P) → (IsTrue q ↔ Q) → IsTrue (p && q) ↔ (P × Q)
and_both true true P Q i j = (λ t. (i.0 refl, j.0 refl), λ h. refl)
and_both true false P Q i j = (λ t. (i.0 refl, j.0 t), λ h. j.1 h.1)
and_both false q P Q i j = (λ t. absurd (never t), λ h. i.1 h.0)
  where
    never : IsTrue false → ⊥
    never t = grind arith

pub all_four : (p q r s : Bool) (P Q R S : Type 0) → (IsTrue p ↔ P) → (IsTrue q ↔ Q) → (IsTrue r ↔ R) → (IsTrue s ↔ S) → IsTrue (p && q && r && s) ↔ (P × Q × R × S)
all_four p q r s P Q R S i j k l =
    let e = and_both (p && q && r) s ((P × Q) × R) S (and_both (p && q) r (P × Q) R (and_both p q P Q i j) k) l in
    (λ t. let h = e.0 t in (h.0.0.0, h.0.0.1, h.0.1, h.1), λ h. e.1 (((h.0, h.1), h.2), h.3))
