-- Bounded numbers, and their products.
use Rattle.std.proofs.Common.{◌≡◌, ◌*ℤ◌, ℤ, FitsSigned, arith, to_z, of_z, w64, lit<, unsigned_abs}
use Rattle.std.specs.Int.{w128}
use Rattle.std.proofs.lemmas.Int.{fits_signed_mul, fits_signed_from_abs, to_z-of_z, unsigned_abs-mul}
use Rattle.std.proofs.lemmas.Nat.{mul-le}
use Rattle.surface_text.specs.Limits.{IsBounded}

-- a product of two fits
pub square_fits : (n : ℤ) → IsBounded n → FitsSigned w128 (n *ℤ n)
square_fits n small = fits_signed_mul w128 n n 1000000000 1000000000 small small (lit< tt)

-- a product of three fits
pub scaled_fits : (n d : ℤ) → IsBounded n → IsBounded d → FitsSigned w128 ((n *ℤ n) *ℤ d)
scaled_fits n d small low =
    let square = mul-le (unsigned_abs n) (unsigned_abs n) 1000000000 1000000000 small small in
    fits_signed_mul w128 (n *ℤ n) d 1000000000000000000 1000000000 (rw (unsigned_abs-mul n n) square) low (lit< tt)

-- a bounded number is kept
pub bounded_kept : (n : ℤ) → IsBounded n → to_z w64 (of_z w64 n) ≡ n
bounded_kept n small = to_z-of_z w64 n (fits_signed_from_abs w64 n (omega (arith, small)))
