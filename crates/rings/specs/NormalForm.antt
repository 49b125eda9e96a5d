-- The normal form of a polynomial expression, and whether two expressions have the same.
use Rattle.std.specs.Prelude.{ℕ, zero, suc, Bool, true, false, ◌&&◌, ℤ, pos, negsuc, ◌+ℤ◌, ◌*ℤ◌}
use Rattle.rings.specs.Ring.{Expr, var, int, add, sub, mul, neg}

-- a polynomial in Horner's form: `horner a p` is a + x·p, where x is the first variable, which a doesn't have
-- (so that its variables count from the second)
pub data Poly : Type 0 where
  none : Poly
  number : ℤ → Poly
  horner : Poly → Poly → Poly

-- c + p
abbrev pub plus_number : ℤ → Poly → Poly
plus_number c none = number c
plus_number c (number d) = number (c +ℤ d)
plus_number c (horner a p) = horner (plus_number c a) p

-- p + q
abbrev pub plus : Poly → Poly → Poly
plus none q = q
plus (number c) q = plus_number c q
plus (horner a p) none = horner a p
plus (horner a p) (number d) = horner (plus_number d a) p
plus (horner a p) (horner b q) = horner (plus a b) (plus p q)

-- c·p
abbrev pub scaled : ℤ → Poly → Poly
scaled c none = none
scaled c (number d) = number (c *ℤ d)
scaled c (horner a p) = horner (scaled c a) (scaled c p)

-- f of each coefficient of the powers of the first variable
abbrev pub each : (Poly → Poly) → Poly → Poly
each f none = none
each f (number d) = horner (f (number d)) none
each f (horner b q) = horner (f b) (each f q)

-- p·q
abbrev pub times : Poly → Poly → Poly
times none q = none
times (number c) q = scaled c q
times (horner a p) q = plus (each (times a) q) (horner none (times p q))

-- the variable i
abbrev pub variable : ℕ → Poly
variable zero = horner none (number (pos 1))
variable (suc i) = horner (variable i) none

-- the normal form of an expression
abbrev pub normal : Expr → Poly
normal (var i) = variable i
normal (int n) = number n
normal (add a b) = plus (normal a) (normal b)
normal (sub a b) = plus (normal a) (scaled (negsuc 0) (normal b))
normal (mul a b) = times (normal a) (normal b)
normal (neg a) = scaled (negsuc 0) (normal a)

-- n = 0
abbrev pub is_zero_number : ℤ → Bool
is_zero_number (pos zero) = true
is_zero_number (pos (suc n)) = false
is_zero_number (negsuc n) = false

-- each coefficient is zero
abbrev pub is_zero_poly : Poly → Bool
is_zero_poly none = true
is_zero_poly (number c) = is_zero_number c
is_zero_poly (horner a p) = is_zero_poly a && is_zero_poly p

-- the two expressions are one polynomial: the normal form of their difference is zero
abbrev pub same : Expr → Expr → Bool
same l r = is_zero_poly (plus (normal l) (scaled (negsuc 0) (normal r)))
