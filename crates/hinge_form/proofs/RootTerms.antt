-- Formulas at K-integers with bounded parts: where they can't leave 128 bits by the size of the parts, no step of them is wide.
use Rattle.std.proofs.Common.{◌≡◌, ℕ, suc, ◌+◌, ◌*◌, ◌^◌, ◌<◌, ◌≤◌, arith, refl, ap, sym, subst}
use Rattle.std.specs.Prelude.{ℤ, pos, ◌+ℤ◌, ◌*ℤ◌, unsigned_abs}
use mathlib.Core.Path.{ap₂, subst₂}
use Rattle.std.proofs.lemmas.Int.{ints}
use Rattle.std.proofs.lemmas.Nat.{mul-le}
use Rattle.rings.specs.Ring.{Expr, var, int, add, sub, mul, neg, eval}
use Rattle.quad_field.specs.declared.quad.Quad.{Quad}
use Rattle.quad_field.specs.Quads.{quad, quad_ops, product}
use Rattle.quad_field.specs.Width.{value_of, FitsI128, PartsFit, AllFit, product_steps, StepsFit}
use Rattle.hinge_form.specs.Small.{PartsWithin}
use Rattle.hinge_form.proofs.WholeTerms.{tree, times_size}

-- ---- the size of a product's steps, where d is at most 1000
module _ (d : ℕ) (x y : Quad) (m n : ℕ) (field : d ≤ 1000) (first : PartsWithin m x) (second : PartsWithin n y) where
  whole : unsigned_abs (x.a *ℤ y.a) ≤ m * n
  whole = times_size x.a y.a m n first.0 second.0

  roots : unsigned_abs (x.b *ℤ y.b) ≤ m * n
  roots = times_size x.b y.b m n first.1 second.1

  scaled : unsigned_abs (pos d *ℤ (x.b *ℤ y.b)) ≤ 1000 * (m * n)
  scaled = times_size (pos d) (x.b *ℤ y.b) 1000 (m * n) (omega (arith, ints, field)) roots

  cross : unsigned_abs (x.a *ℤ y.b) ≤ m * n
  cross = times_size x.a y.b m n first.0 second.1

  other : unsigned_abs (x.b *ℤ y.a) ≤ m * n
  other = times_size x.b y.a m n first.1 second.0

  sum_size : (k l : ℤ) (r s : ℕ) → unsigned_abs k ≤ r → unsigned_abs l ≤ s → unsigned_abs (k +ℤ l) ≤ r + s
  sum_size k l r s p q = omega (arith, ints)

  pub whole_part : unsigned_abs (product d x y).a ≤ 1001 * (m * n)
  whole_part = omega (arith, sum_size (x.a *ℤ y.a) (pos d *ℤ (x.b *ℤ y.b)) (m * n) (1000 * (m * n)) whole scaled)

  pub root_part : unsigned_abs (product d x y).b ≤ 1001 * (m * n)
  root_part = omega (arith, sum_size (x.a *ℤ y.b) (x.b *ℤ y.a) (m * n) (m * n) cross other)

  fits_by_size : (k : ℤ) (r : ℕ) → unsigned_abs k ≤ r → r ≤ 1001 * (m * n) → 1001 * (m * n) < 2 ^ 127 → FitsI128 k
  fits_by_size k r s t h = omega (arith, ints)

  pub product_fits : 1001 * (m * n) < 2 ^ 127 → AllFit (product_steps d x y)
  product_fits h = (
    fits_by_size (x.a *ℤ y.a) (m * n) whole (omega arith) h,
    (
      fits_by_size (x.b *ℤ y.b) (m * n) roots (omega arith) h,
      (
        fits_by_size (pos d *ℤ (x.b *ℤ y.b)) (1000 * (m * n)) scaled (omega arith) h,
        (
          fits_by_size (product d x y).a (1001 * (m * n)) whole_part (omega arith) h,
          (
            fits_by_size (x.a *ℤ y.b) (m * n) cross (omega arith) h,
            (
              fits_by_size (x.b *ℤ y.a) (m * n) other (omega arith) h,
              (fits_by_size (product d x y).b (1001 * (m * n)) root_part (omega arith) h, tt),
            ),
          ),
        ),
      ),
    ),
  )

-- ---- the value of a tree
pub tree_value : (d : ℕ) (w : ℕ → Quad) (e : Expr) → value_of d (tree w e) ≡ eval (quad_ops d) w e
tree_value d w (var i) = refl
tree_value d w (int n) = refl
tree_value d w (add p q) = ap₂ (quad_ops d).add (tree_value d w p) (tree_value d w q)
tree_value d w (sub p q) = ap₂ (quad_ops d).sub (tree_value d w p) (tree_value d w q)
tree_value d w (mul p q) = ap₂ (quad_ops d).mul (tree_value d w p) (tree_value d w q)
tree_value d w (neg p) = ap (quad_ops d).neg (tree_value d w p)

-- what the parts of an expression can't exceed where those of its variables are of at most size b and d is at most 1000; at least 1
abbrev pub span : ℕ → Expr → ℕ
span b (var i) = b
span b (int n) = suc (unsigned_abs n)
span b (add p q) = span b p + span b q
span b (sub p q) = span b p + span b q
span b (mul p q) = 1001 * (span b p * span b q)
span b (neg p) = span b p

sum_within : (x y : Quad) (r s : ℕ) (d : ℕ) → PartsWithin r x → PartsWithin s y → PartsWithin (r + s) ((quad_ops d).add x y)
sum_within x y r s d p q = (omega (arith, ints, p.0, q.0), omega (arith, ints, p.1, q.1))

pub difference_within : (x y : Quad) (r s : ℕ) (d : ℕ) → PartsWithin r x → PartsWithin s y → PartsWithin (r + s) ((quad_ops d).sub x y)
difference_within x y r s d p q = (omega (arith, ints, p.0, q.0), omega (arith, ints, p.1, q.1))

negative_within : (x : Quad) (r d : ℕ) → PartsWithin r x → PartsWithin r ((quad_ops d).neg x)
negative_within x r d p = (omega (arith, ints, p.0), omega (arith, ints, p.1))

whole_within : (n : ℤ) → PartsWithin (suc (unsigned_abs n)) (quad n (pos 0))
whole_within n = (omega arith, omega (arith, ints))

module _ (b : ℕ) (some : 1 ≤ b) where
  span_some : (e : Expr) → 1 ≤ span b e
  span_some (var i) = some
  span_some (int n) = omega arith
  span_some (add p q) = omega (arith, span_some p)
  span_some (sub p q) = omega (arith, span_some p)
  span_some (mul p q) = omega (arith, mul-le 1 1 (span b p) (span b q) (span_some p) (span_some q))
  span_some (neg p) = span_some p

  first_below : (p q : Expr) → span b p ≤ span b (mul p q)
  first_below p q = omega (arith, mul-le (span b p) 1 (span b p) (span b q) (omega arith) (span_some q))

  second_below : (p q : Expr) → span b q ≤ span b (mul p q)
  second_below p q = omega (arith, mul-le 1 (span b q) (span b p) (span b q) (span_some p) (omega arith))

  module _ (d : ℕ) (field : d ≤ 1000) (w : ℕ → Quad) (small : (i : ℕ) → PartsWithin b (w i)) where
    within : (e : Expr) → PartsWithin (span b e) (eval (quad_ops d) w e)
    within (var i) = small i
    within (int n) = whole_within n
    within (add p q) = sum_within (eval (quad_ops d) w p) (eval (quad_ops d) w q) (span b p) (span b q) d (within p) (within q)
    within (sub p q) = difference_within (eval (quad_ops d) w p) (eval (quad_ops d) w q) (span b p) (span b q) d (within p) (within q)
    within (mul p q) = (
      whole_part d (eval (quad_ops d) w p) (eval (quad_ops d) w q) (span b p) (span b q) field (within p) (within q),
      root_part d (eval (quad_ops d) w p) (eval (quad_ops d) w q) (span b p) (span b q) field (within p) (within q),
    )
    within (neg p) = negative_within (eval (quad_ops d) w p) (span b p) d (within p)

    fits_within : (x : Quad) (r : ℕ) → PartsWithin r x → r < 2 ^ 127 → PartsFit x
    fits_within x r p h = (omega (arith, ints, p.0), omega (arith, ints, p.1))

    parts : (e : Expr) → span b e < 2 ^ 127 → PartsFit (value_of d (tree w e))
    parts e h = subst PartsFit (sym (tree_value d w e)) (fits_within (eval (quad_ops d) w e) (span b e) (within e) h)

    -- no step of an expression is wide that spans less than 2^127
    pub root_steps : (e : Expr) → span b e < 2 ^ 127 → StepsFit d (tree w e)
    root_steps (var i) h = tt
    root_steps (int n) h = tt
    root_steps (add p q) h = (root_steps p (omega (arith, h)), root_steps q (omega (arith, h)), parts (add p q) h)
    root_steps (sub p q) h = (root_steps p (omega (arith, h)), root_steps q (omega (arith, h)), parts (sub p q) h)
    root_steps (mul p q) h = (
      root_steps p (omega (arith, h, first_below p q)),
      root_steps q (omega (arith, h, second_below p q)),
      subst₂ (λ (x y : Quad). AllFit (product_steps d x y)) (sym (tree_value d w p)) (sym (tree_value d w q))
          (product_fits d (eval (quad_ops d) w p) (eval (quad_ops d) w q) (span b p) (span b q) field (within p) (within q) h),
    )
    root_steps (neg p) h = (root_steps p h, parts (neg p) h)
