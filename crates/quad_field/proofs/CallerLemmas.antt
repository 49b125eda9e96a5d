-- What the crates above cite: lemmas on K-integers that speak of public definitions alone.
use Rattle.std.proofs.Common.{◌≡◌, ℕ, ◌*◌, ◌<◌, [], ◌∷◌, refl, ap, arith}
use Rattle.std.specs.Prelude.{ℤ, pos, ◌+ℤ◌, ◌*ℤ◌, ◌<ℤ◌, unsigned_abs}
use mathlib.Core.Logic.{inl}
use Rattle.std.proofs.lemmas.Int.{ints}
use Rattle.std.proofs.Math.IntN.{ℤ_set}
use Rattle.rings.specs.Ring.{var, expr, whole_ops}
use Rattle.rings.specs.Order.{IsOrdered}
use Rattle.rings.proofs.Solver.{identity}
use Rattle.rings.proofs.WholeNumbers.{whole_ring}
use Rattle.rings.proofs.LargeMultiples.{IsArchimedean}
use Rattle.quad_field.specs.declared.quad.Quad.{Quad}
use Rattle.quad_field.specs.FieldNumber.{IsFieldNumber}
use Rattle.quad_field.specs.Quads.{quad, quad_ops, scaled, conjugate_of, product, IsPositive, IsZero}
use Rattle.quad_field.specs.Multiples.{HasWhole}
use Rattle.quad_field.specs.Size.{size}
use Rattle.quad_field.proofs.Signs.{not_zero_too}
use Rattle.quad_field.proofs.Archimedes.{archimedes}
use Rattle.quad_field.proofs.Conjugates as conjugates
-- K-integers are a commutative ring, and an ordered one where D is square-free
pub use Rattle.quad_field.proofs.KIntegers.{quad_ring, quad_order}
-- n = (n / g)·g where g divides n
pub use Rattle.quad_field.proofs.Contents.{exact_quotient}
-- what is left of a list when its greatest common divisor is taken out has no divisor
pub use Rattle.quad_field.proofs.Contents.{primitive_left}

-- K-integers are a set: two equations between the same two are equal
pub quad_set : IsSet Quad
quad_set = hlevel ℤ_set

-- zero is the number whose parts are zero
pub zero_is : (d : ℕ) (x : Quad) → IsZero x → x ≡ (quad_ops d).int (pos 0)
zero_is d x z i = quad (z.0 i) (z.1 i)

pub is_zero_from : (d : ℕ) (x : Quad) → x ≡ (quad_ops d).int (pos 0) → IsZero x
is_zero_from d x e = (ap (λ (y : Quad). y.a) e, ap (λ (y : Quad). y.b) e)

-- zero isn't positive, whatever D is, and whole numbers above zero are
pub zero_not_positive : (d : ℕ) → ¬ (IsPositive d ((quad_ops d).int (pos 0)))
zero_not_positive d p = not_zero_too d ((quad_ops d).int (pos 0)) (refl, refl) p

pub whole_positive : (d : ℕ) (n : ℤ) → pos 0 <ℤ n → IsPositive d ((quad_ops d).int n)
whole_positive d n h = inl (omega (arith, ints), omega (arith, ints), λ z. let e = z.0 in omega (arith, ints))

pub natural_positive : (d n : ℕ) → 0 < n → IsPositive d ((quad_ops d).int (pos n))
natural_positive d n h = whole_positive d (pos n) (omega (arith, ints))

-- a multiple by a whole number is a product: k·(a + b·√D)
pub scaled_is : (d : ℕ) (k : ℤ) (x : Quad) → scaled k x ≡ (quad_ops d).mul ((quad_ops d).int k) x
scaled_is d k x i = quad (first i) (second i)
  where
    first : x.a *ℤ k ≡ (k *ℤ x.a) +ℤ (pos d *ℤ (pos 0 *ℤ x.b))
    first =
        identity whole_ops whole_ring (x.a ∷ x.b ∷ k ∷ pos d ∷ []) (expr.mul (var 0) (var 2))
        (expr.add (expr.mul (var 2) (var 0)) (expr.mul (var 3) (expr.mul (expr.int (pos 0)) (var 1)))) tt

    second : x.b *ℤ k ≡ (k *ℤ x.b) +ℤ (pos 0 *ℤ x.a)
    second =
        identity whole_ops whole_ring (x.a ∷ x.b ∷ k ∷ []) (expr.mul (var 1) (var 2))
        (expr.add (expr.mul (var 2) (var 1)) (expr.mul (expr.int (pos 0)) (var 0))) tt

module _ (d : ℕ) (field : IsFieldNumber d) where
  -- the K-integers of a field are ordered
  pub order_of : IsOrdered (quad_ops d) (IsPositive d)
  order_of = quad_order d field.2 field.0

  -- all large multiples of a positive number exceed any other
  pub archimedean : IsArchimedean (quad_ops d) (IsPositive d)
  archimedean p r h = (size d p * size d r, λ n more. archimedes d field.2 field.0 p r h n more)

  -- some multiple of a positive number is a whole number above zero
  pub has_whole : (x : Quad) → IsPositive d x → HasWhole d x
  has_whole x p = conjugates.has_whole d field.2 field.0 x p

  -- the norm of a positive number isn't zero
  pub norm_some : (x : Quad) (n : ℤ) → IsPositive d x → quad n (pos 0) ≡ product d x (conjugate_of x) → 0 < unsigned_abs n
  norm_some x n p e = conjugates.norm_some d field.2 field.0 x p n e
