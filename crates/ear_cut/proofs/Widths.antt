-- Sums, opposites and determinants of small vectors are in width.
use Rattle.std.proofs.Common.{◌≡◌, ℕ, ◌+◌, ◌*◌, ◌≤◌, ℤ, pos, refl, arith}
use Rattle.std.specs.Prelude.{◌+ℤ◌, ◌-ℤ◌, ◌*ℤ◌, neg_ℤ, unsigned_abs}
use Rattle.std.specs.Int.{w128}
use Rattle.std.proofs.lemmas.Int.{ints, unsigned_abs-mul, fits_signed_from_abs}
use Rattle.std.proofs.lemmas.Nat.{mul-le}
use Rattle.quad_field.specs.declared.quad.Quad.{Quad}
use Rattle.quad_field.specs.Quads.{quad_ops}
use Rattle.quad_field.specs.Width.{term_ops, FitsI128, PartsFit, AllFit, StepsFit, product_steps}
use Rattle.plane.specs.Vectors.{Vector, vector, vector_term, vector_sum, opposite_vector, det, VectorFits}
use Rattle.plane.specs.declared.vec2.Vec2.{Vec2}
use Rattle.ear_cut.specs.Steps.{size_of, IsSmall}

pub abs_sum : (a b : ℤ) → unsigned_abs (a +ℤ b) ≤ unsigned_abs a + unsigned_abs b
abs_sum a b = omega (arith, ints)

pub abs_difference : (a b : ℤ) → unsigned_abs (a -ℤ b) ≤ unsigned_abs a + unsigned_abs b
abs_difference a b = omega (arith, ints)

pub abs_opposite : (a : ℤ) → unsigned_abs (neg_ℤ a) ≡ unsigned_abs a
abs_opposite a = omega (arith, ints)

-- what is below 2^100 fits
fits_below : (z : ℤ) → unsigned_abs z ≤ 4000000000000000000000000000000 → FitsI128 z
fits_below z h = fits_signed_from_abs w128 z (omega arith)

-- both parts are at most m
abbrev ArePartsWithin : ℕ → Quad → Type 0
ArePartsWithin m x = (unsigned_abs x.a ≤ m) × (unsigned_abs x.b ≤ m)

parts_fit : (x : Quad) → ArePartsWithin 4000000000000000000000000000000 x → PartsFit x
parts_fit x h = (fits_below x.a h.0, fits_below x.b h.1)

product_bound : (a b : ℤ) (m : ℕ) → unsigned_abs a ≤ m → unsigned_abs b ≤ m → unsigned_abs (a *ℤ b) ≤ m * m
product_bound a b m p q = omega (arith, unsigned_abs-mul a b, mul-le (unsigned_abs a) (unsigned_abs b) m m p q)

scaled_bound : (d : ℕ) (a : ℤ) (n : ℕ) → d ≤ 1000 → unsigned_abs a ≤ n → unsigned_abs (pos d *ℤ a) ≤ 1000 * n
scaled_bound d a n small p = omega (arith, unsigned_abs-mul (pos d) a, mul-le d (unsigned_abs a) 1000 n small p)

-- the steps of a product of small numbers, and its value
product_small : (d : ℕ) (x y : Quad) (n : ℕ) → d ≤ 1000 → 2002 * n ≤ 4000000000000000000000000000000 → (m : ℕ) → m * m ≡ n → ArePartsWithin m x → ArePartsWithin m y
    → AllFit (product_steps d x y) × ArePartsWithin (1001 * n) ((quad_ops d).mul x y)
product_small d x y n small fit m e p q =
    let ac : unsigned_abs (x.a *ℤ y.a) ≤ n = omega (arith, product_bound x.a y.a m p.0 q.0) in
    let bd : unsigned_abs (x.b *ℤ y.b) ≤ n = omega (arith, product_bound x.b y.b m p.1 q.1) in
    let ad : unsigned_abs (x.a *ℤ y.b) ≤ n = omega (arith, product_bound x.a y.b m p.0 q.1) in
    let bc : unsigned_abs (x.b *ℤ y.a) ≤ n = omega (arith, product_bound x.b y.a m p.1 q.0) in
    let dbd : unsigned_abs (pos d *ℤ (x.b *ℤ y.b)) ≤ 1000 * n = scaled_bound d (x.b *ℤ y.b) n small bd in
    let whole : unsigned_abs ((x.a *ℤ y.a) +ℤ (pos d *ℤ (x.b *ℤ y.b))) ≤ 1001 * n = omega (arith, abs_sum (x.a *ℤ y.a) (pos d *ℤ (x.b *ℤ y.b))) in
    let root : unsigned_abs ((x.a *ℤ y.b) +ℤ (x.b *ℤ y.a)) ≤ 1001 * n = omega (arith, abs_sum (x.a *ℤ y.b) (x.b *ℤ y.a)) in (
      (
        fits_below (x.a *ℤ y.a) (omega arith),
        (
          fits_below (x.b *ℤ y.b) (omega arith),
          (
            fits_below (pos d *ℤ (x.b *ℤ y.b)) (omega arith),
            (
              fits_below ((x.a *ℤ y.a) +ℤ (pos d *ℤ (x.b *ℤ y.b))) (omega arith),
              (
                fits_below (x.a *ℤ y.b) (omega arith),
                (fits_below (x.b *ℤ y.a) (omega arith), (fits_below ((x.a *ℤ y.b) +ℤ (x.b *ℤ y.a)) (omega arith), tt)),
              ),
            ),
          ),
        ),
      ),
      (whole, root),
    )

-- so is a difference of products
difference_small : (x y : Quad) (n : ℕ) (d : ℕ) → 2 * n ≤ 4000000000000000000000000000000 → ArePartsWithin n x → ArePartsWithin n y → PartsFit ((quad_ops d).sub x y)
difference_small x y n d fit p q =
    parts_fit _ (omega (arith, abs_difference x.a y.a), omega (arith, abs_difference x.b y.b))

-- the parts of a small vector are small
first_small : (v : Vector Quad) → IsSmall v → ArePartsWithin 1032000000000 v.0
first_small v small = (omega arith, omega arith)

second_small : (v : Vector Quad) → IsSmall v → ArePartsWithin 1032000000000 v.1
second_small v small = (omega arith, omega arith)

pub det_fits : (d : ℕ) → d ≤ 1000 → (u v : Vec2) → IsSmall (vector u) → IsSmall (vector v) → StepsFit d (det term_ops (vector_term u) (vector_term v))
det_fits d small u v p q =
    let n : (n : ℕ) × (n ≡ 1065024000000000000000000) = (1065024000000000000000000, refl) in
    let left = product_small d u.s v.t n.0 small (omega (arith, n.1)) 1032000000000 (omega (arith, n.1)) (first_small (vector u) p) (second_small (vector v) q) in
    let right = product_small d u.t v.s n.0 small (omega (arith, n.1)) 1032000000000 (omega (arith, n.1)) (second_small (vector u) p) (first_small (vector v) q) in (
      (tt, tt, left.0),
      (tt, tt, right.0),
      difference_small ((quad_ops d).mul u.s v.t) ((quad_ops d).mul u.t v.s) (1001 * n.0) d (omega (arith, n.1)) left.1 right.1,
    )

pub sum_fits : (d : ℕ) (u v : Vec2) → IsSmall (vector u) → IsSmall (vector v) → VectorFits d (vector_sum term_ops (vector_term u) (vector_term v))
sum_fits d u v p q = (
  (tt, tt, parts_fit _ (omega (arith, abs_sum u.s.a v.s.a), omega (arith, abs_sum u.s.b v.s.b))),
  (tt, tt, parts_fit _ (omega (arith, abs_sum u.t.a v.t.a), omega (arith, abs_sum u.t.b v.t.b))),
)

-- sizes of sums and opposites
pub size_sum : (d : ℕ) (u v : Vector Quad) → size_of (vector_sum (quad_ops d) u v) ≤ size_of u + size_of v
size_sum d u v = omega (arith, abs_sum u.0.a v.0.a, abs_sum u.0.b v.0.b, abs_sum u.1.a v.1.a, abs_sum u.1.b v.1.b)

pub size_opposite : (d : ℕ) (u : Vector Quad) → size_of (opposite_vector (quad_ops d) u) ≡ size_of u
size_opposite d u = omega (arith, abs_opposite u.0.a, abs_opposite u.0.b, abs_opposite u.1.a, abs_opposite u.1.b)
