-- Remainders of whole numbers modulo 16.
use Rattle.std.proofs.Common.{◌≡◌, ℕ, suc, ◌+◌, ◌*◌, ◌%◌, ◌<◌, ap, refl, arith}
use Rattle.std.specs.Prelude.{ℤ, pos, negsuc, ◌+ℤ◌, unsigned_abs}
use Rattle.std.specs.Int.{int_rem_euclid}
use Rattle.std.proofs.lemmas.Int.{ints, int_rem_euclid_is}

pub residue_low : (z : ℤ) → unsigned_abs (int_rem_euclid z (pos 16)) < 16
residue_low (pos a) = omega arith
residue_low (negsuc a) = omega arith

-- a whole number and a multiple of 16 are a natural number
lifted : (z : ℤ) → (k : ℕ) × (m : ℕ) × (z +ℤ pos (k * 16) ≡ pos m)
lifted (pos a) = (0, a, omega (arith, ints))
lifted (negsuc a) = (suc a, 15 * suc a, omega (arith, ints))

residue_is : (z : ℤ) (k m : ℕ) → z +ℤ pos (k * 16) ≡ pos m → unsigned_abs (int_rem_euclid z (pos 16)) ≡ m % 16
residue_is z k m e = ap unsigned_abs (int_rem_euclid_is z (pos 16) 16 k m (omega arith) refl e)

-- the remainder of a sum
pub residue_sum : (x y : ℤ) → unsigned_abs (int_rem_euclid (x +ℤ y) (pos 16)) ≡ (unsigned_abs (int_rem_euclid x (pos 16)) + unsigned_abs (int_rem_euclid y (pos 16))) % 16
residue_sum x y =
    let a = lifted x in
    let b = lifted y in
    let first : unsigned_abs (int_rem_euclid x (pos 16)) ≡ a.1 % 16 = residue_is x a.0 a.1 a.2 in
    let second : unsigned_abs (int_rem_euclid y (pos 16)) ≡ b.1 % 16 = residue_is y b.0 b.1 b.2 in
    let both : unsigned_abs (int_rem_euclid (x +ℤ y) (pos 16)) ≡ (a.1 + b.1) % 16 = residue_is (x +ℤ y) (a.0 + b.0) (a.1 + b.1) (omega (arith, ints, a.2, b.2)) in
    omega (arith, first, second, both)
