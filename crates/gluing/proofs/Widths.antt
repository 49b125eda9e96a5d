-- Bounded numbers: their sums, determinants and inner products are not wide.
use Rattle.std.proofs.Common.{◌≡◌, suc, ◌-◌, sym, subst, ℕ, ◌+◌, ◌*◌, ◌<◌, ◌≤◌, ◌^◌, ℤ, pos, ◌+ℤ◌, ◌-ℤ◌, ◌*ℤ◌, arith, lit<, unsigned_abs}
use Rattle.std.specs.Int.{w128}
use Rattle.std.proofs.lemmas.Int.{fits_signed_from_abs, unsigned_abs-mul, ints}
use Rattle.std.proofs.lemmas.Nat.{mul-le}
use Rattle.quad_field.specs.declared.quad.Quad.{Quad}
use Rattle.quad_field.specs.Quads.{quad_ops}
use Rattle.quad_field.specs.Width.{FitsI128, PartsFit, AllFit, product_steps, term_ops, StepsFit}
use Rattle.plane.specs.declared.vec2.Vec2.{Vec2}
use Rattle.plane.specs.Vectors.{Vector, det, vector, vector_term, vector_sum, VectorFits}
use Rattle.surface_text.specs.Limits.{IsBoundedQuad, IsBoundedVector}
use Rattle.gluing.specs.Bounds.{IsWithin, IsVectorWithin, inner}

sum_abs : (a b : ℤ) (m n : ℕ) → unsigned_abs a ≤ m → unsigned_abs b ≤ n → unsigned_abs (a +ℤ b) ≤ m + n
sum_abs a b m n h k = omega (arith, ints)

difference_abs : (a b : ℤ) (m n : ℕ) → unsigned_abs a ≤ m → unsigned_abs b ≤ n → unsigned_abs (a -ℤ b) ≤ m + n
difference_abs a b m n h k = omega (arith, ints)

product_abs : (a b : ℤ) (m n : ℕ) → unsigned_abs a ≤ m → unsigned_abs b ≤ n → unsigned_abs (a *ℤ b) ≤ m * n
product_abs a b m n h k = rw (unsigned_abs-mul a b) (mul-le (unsigned_abs a) (unsigned_abs b) m n h k)

abs_fits : (z : ℤ) (n : ℕ) → unsigned_abs z ≤ n → n < 2 ^ 127 → FitsI128 z
abs_fits z n h k = fits_signed_from_abs w128 z (omega (arith, h, k))

-- a number within n fits, where n does
pub within_fits : (n : ℕ) (x : Quad) → IsWithin n x → n < 2 ^ 127 → PartsFit x
within_fits n x h k = (abs_fits x.a n h.0 k, abs_fits x.b n h.1 k)

pub sum_within : (d m n : ℕ) (x y : Quad) → IsWithin m x → IsWithin n y → IsWithin (m + n) ((quad_ops d).add x y)
sum_within d m n x y h k = (sum_abs x.a y.a m n h.0 k.0, sum_abs x.b y.b m n h.1 k.1)

pub difference_within : (d m n : ℕ) (x y : Quad) → IsWithin m x → IsWithin n y → IsWithin (m + n) ((quad_ops d).sub x y)
difference_within d m n x y h k = (difference_abs x.a y.a m n h.0 k.0, difference_abs x.b y.b m n h.1 k.1)

-- the steps of a product of bounded numbers fit, and so large is the product
pub product_fits : (d : ℕ) (x y : Quad) → d ≤ 1000 → IsBoundedQuad x → IsBoundedQuad y
    → AllFit (product_steps d x y) × IsWithin 1001000000000000000000 ((quad_ops d).mul x y)
product_fits d x y low h k =
    let whole : unsigned_abs (x.a *ℤ y.a) ≤ 1000000000000000000 = product_abs x.a y.a 1000000000 1000000000 h.0 k.0 in
    let root : unsigned_abs (x.b *ℤ y.b) ≤ 1000000000000000000 = product_abs x.b y.b 1000000000 1000000000 h.1 k.1 in
    let first : unsigned_abs (x.a *ℤ y.b) ≤ 1000000000000000000 = product_abs x.a y.b 1000000000 1000000000 h.0 k.1 in
    let second : unsigned_abs (x.b *ℤ y.a) ≤ 1000000000000000000 = product_abs x.b y.a 1000000000 1000000000 h.1 k.0 in
    let times : unsigned_abs (pos d *ℤ (x.b *ℤ y.b)) ≤ 1000000000000000000000 = product_abs (pos d) (x.b *ℤ y.b) 1000 1000000000000000000 low root in
    let left : unsigned_abs ((x.a *ℤ y.a) +ℤ (pos d *ℤ (x.b *ℤ y.b))) ≤ 1001000000000000000000 =
    sum_abs (x.a *ℤ y.a) (pos d *ℤ (x.b *ℤ y.b)) 1000000000000000000 1000000000000000000000 whole times in
    let right : unsigned_abs ((x.a *ℤ y.b) +ℤ (x.b *ℤ y.a)) ≤ 2000000000000000000 =
    sum_abs (x.a *ℤ y.b) (x.b *ℤ y.a) 1000000000000000000 1000000000000000000 first second in (
      (
        abs_fits (x.a *ℤ y.a) 1000000000000000000 whole (lit< tt),
        (
          abs_fits (x.b *ℤ y.b) 1000000000000000000 root (lit< tt),
          (
            abs_fits (pos d *ℤ (x.b *ℤ y.b)) 1000000000000000000000 times (lit< tt),
            (
              abs_fits ((x.a *ℤ y.a) +ℤ (pos d *ℤ (x.b *ℤ y.b))) 1001000000000000000000 left (lit< tt),
              (
                abs_fits (x.a *ℤ y.b) 1000000000000000000 first (lit< tt),
                (
                  abs_fits (x.b *ℤ y.a) 1000000000000000000 second (lit< tt),
                  (abs_fits ((x.a *ℤ y.b) +ℤ (x.b *ℤ y.a)) 2000000000000000000 right (lit< tt), tt),
                ),
              ),
            ),
          ),
        ),
      ),
      (left, omega (arith, right)),
    )

-- the determinant of two bounded vectors isn't wide
pub det_fits : (d : ℕ) (u v : Vec2) → d ≤ 1000 → IsBoundedVector u → IsBoundedVector v → StepsFit d (det term_ops (vector_term u) (vector_term v))
det_fits d u v low h k =
    let first = product_fits d u.s v.t low h.0 k.1 in
    let second = product_fits d u.t v.s low h.1 k.0 in
    let whole = difference_within d 1001000000000000000000 1001000000000000000000 ((quad_ops d).mul u.s v.t) ((quad_ops d).mul u.t v.s) first.1 second.1 in
    ((tt, tt, first.0), (tt, tt, second.0), within_fits 2002000000000000000000 ((quad_ops d).sub ((quad_ops d).mul u.s v.t) ((quad_ops d).mul u.t v.s)) whole (lit< tt))

-- nor is their inner product
pub inner_fits : (d : ℕ) (u v : Vec2) → d ≤ 1000 → IsBoundedVector u → IsBoundedVector v → StepsFit d (inner term_ops (vector_term u) (vector_term v))
inner_fits d u v low h k =
    let first = product_fits d u.s v.s low h.0 k.0 in
    let second = product_fits d u.t v.t low h.1 k.1 in
    let whole = sum_within d 1001000000000000000000 1001000000000000000000 ((quad_ops d).mul u.s v.s) ((quad_ops d).mul u.t v.t) first.1 second.1 in
    ((tt, tt, first.0), (tt, tt, second.0), within_fits 2002000000000000000000 ((quad_ops d).add ((quad_ops d).mul u.s v.s) ((quad_ops d).mul u.t v.t)) whole (lit< tt))

-- two vectors within m and n have a sum that isn't wide
pub sum_fits : (d m n : ℕ) (u v : Vec2) → m + n < 2 ^ 127 → IsVectorWithin m (vector u) → IsVectorWithin n (vector v)
    → VectorFits d (vector_sum term_ops (vector_term u) (vector_term v))
sum_fits d m n u v low h k = (
  (tt, tt, within_fits (m + n) ((quad_ops d).add u.s v.s) (sum_within d m n u.s v.s h.0 k.0) low),
  (tt, tt, within_fits (m + n) ((quad_ops d).add u.t v.t) (sum_within d m n u.t v.t h.1 k.1) low),
)

-- and as many sides as n - j and one
pub within_more : (d n i j : ℕ) (u s t : Vector Quad) → suc i ≡ j → j ≤ n → IsVectorWithin 1000000000 u → IsVectorWithin ((n - j) * 1000000000) s
    → t ≡ vector_sum (quad_ops d) u s → IsVectorWithin ((n - i) * 1000000000) t
within_more d n i j u s t e h a b is =
    let more : 1000000000 + (n - j) * 1000000000 ≡ (n - i) * 1000000000 = omega arith in
    let sum : IsVectorWithin (1000000000 + (n - j) * 1000000000) (vector_sum (quad_ops d) u s) =
    (sum_within d 1000000000 ((n - j) * 1000000000) u.0 s.0 a.0 b.0, sum_within d 1000000000 ((n - j) * 1000000000) u.1 s.1 a.1 b.1) in
    subst (IsVectorWithin ((n - i) * 1000000000)) (sym is) (subst (λ (m : ℕ). IsVectorWithin m (vector_sum (quad_ops d) u s)) more sum)
