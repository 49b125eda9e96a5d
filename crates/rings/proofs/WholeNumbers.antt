-- Whole numbers are an ordered commutative ring.
use Rattle.std.proofs.Common.{◌≡◌, ℕ, ◌*◌, ◌<◌, arith, refl, ap}
use Rattle.std.proofs.lemmas.Int.{ints}
use Rattle.std.specs.Prelude.{T, zero, suc, ℤ, pos, negsuc, ◌+ℤ◌, ◌*ℤ◌}
use lib.Signed.{<ℤ_irrefl}
use borrow.Author.Differences.{up, down, product_is, sum_is_lem}
use Rattle.rings.specs.Ring.{whole_ops, IsRing, Expr, eval}
use Rattle.rings.specs.NormalForm.{same}
use Rattle.rings.proofs.Solver.{solve}
use Rattle.rings.specs.Order.{IsOrdered, Sign, is_zero, is_positive, is_negative, IsWholePositive}
use lib.IntN.{*ℤ_comm}

-- (a + b)·c = a·c + b·c
pub add_mul_ℤ : (a b c : ℤ) → (a +ℤ b) *ℤ c ≡ a *ℤ c +ℤ b *ℤ c
add_mul_ℤ a b c = omega (arith, ints, ap (λ x. x * up c) (sum_is_lem a b), ap (λ x. x * down c) (sum_is_lem a b))

-- (a·b)·c = a·(b·c)
pub mul_assoc_ℤ : (a b c : ℤ) → (a *ℤ b) *ℤ c ≡ a *ℤ (b *ℤ c)
mul_assoc_ℤ a b c =
    let ab = product_is a b in
    let bc = product_is b c in
    let by = λ (k : ℕ) (m n : ℕ) (e : m ≡ n). ap (λ x. x * k) e in
    omega (arith, ints, by (up c) _ _ ab.0, by (down c) _ _ ab.1, by (up a) _ _ bc.0, by (down a) _ _ bc.1, by (down c) _ _ ab.0, by (up c) _ _ ab.1, by (down a) _ _ bc.0, by (up a) _ _ bc.1)

-- whole numbers are a commutative ring
pub whole_ring : IsRing whole_ops
whole_ring = record {
  add_assoc = λ a b c. omega (arith, ints);
  add_comm = λ a b. omega (arith, ints);
  zero-add = λ a. omega (arith, ints);
  add-neg = λ a. omega (arith, ints);
  sub_is = λ a b. omega (arith, ints);
  mul_assoc = mul_assoc_ℤ;
  mul_comm = *ℤ_comm;
  one-mul = λ a. omega (arith, ints);
  add-mul = add_mul_ℤ;
  int-add = λ a b. refl;
  int-mul = λ a b. refl;
}

-- a natural number above zero
positive_of : (n : ℕ) → 0 < n → IsWholePositive (pos n)
positive_of n h = omega (arith, ints)

-- the next natural number
positive_suc : (n : ℕ) → IsWholePositive (pos (suc n))
positive_suc n = positive_of (suc n) (omega arith)

-- a product of positive whole numbers
product_ℤ : (a b : ℤ) → IsWholePositive a → IsWholePositive b → IsWholePositive (a *ℤ b)
product_ℤ (pos zero) b p q = absurd (<ℤ_irrefl p)
product_ℤ (pos (suc m)) (pos zero) p q = absurd (<ℤ_irrefl q)
product_ℤ (pos (suc m)) (pos (suc n)) p q = positive_of (suc m * suc n) (omega arith)
product_ℤ (pos (suc m)) (negsuc n) p q = absurd q.lt
product_ℤ (negsuc m) b p q = absurd p.lt

-- the sign of a whole number
sign_ℤ : (a : ℤ) → Sign whole_ops IsWholePositive a
sign_ℤ (pos zero) = is_zero refl
sign_ℤ (pos (suc n)) = is_positive (positive_suc n)
sign_ℤ (negsuc n) = is_negative (positive_suc n)

-- whole numbers are ordered
pub whole_order : IsOrdered whole_ops IsWholePositive
whole_order = record {
  sum = λ a b p q. omega (arith, ints);
  product = product_ℤ;
  sign = sign_ℤ;
  zero_is_not = λ p. <ℤ_irrefl p;
}

-- expressions of one normal form have one value
pub one_value : (v : ℕ → ℤ) (l r : Expr) → T (same l r) → eval whole_ops v l ≡ eval whole_ops v r
one_value v l r t = solve whole_ops whole_ring v l r t
