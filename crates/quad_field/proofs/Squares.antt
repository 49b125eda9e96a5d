-- Which squares divide a number.
use Rattle.std.proofs.Common.{◌≡◌, ℕ, ◌*◌, ◌+◌, ◌<◌, ◌≤◌, ◌%◌, arith, ap, subst}
use Rattle.std.proofs.lemmas.Nat.Gcd.{dvd_of_mod-eq-zero, mod-eq-zero_of_dvd, le_of_dvd, dvd_refl}
use native.Mathlib.Nat.{eq-zero_of_zero-dvd}
use Prim.Native.Nat.{◌∣◌}
use Rattle.quad_field.specs.FieldNumber.{IsSquareFree}
use Rattle.quad_field.proofs.Root.{below_from_squares}

pub found : (d k : ℕ) → 2 ≤ k → d % (k * k) ≡ 0 → ¬ (IsSquareFree d)
found d k two e free = let one : k ≡ 1 = free k (dvd_of_mod-eq-zero (k * k) e) in omega (arith, one, two)

pub one_more : (d k : ℕ) → ((j : ℕ) → 2 ≤ j → j < k → ¬ ((j * j) ∣ d)) → ¬ (d % (k * k) ≡ 0) → (j : ℕ) → 2 ≤ j → j < k + 1 → ¬ ((j * j) ∣ d)
one_more d k before e j two less h = before j two (omega (arith, other)) h
  where
    other : ¬ (j ≡ k)
    other s = e (mod-eq-zero_of_dvd (k * k) (subst (λ x. (x * x) ∣ d) s h))

zero_square : (d j : ℕ) → 1 ≤ d → j ≡ 0 → ¬ ((j * j) ∣ d)
zero_square d j some z h = let e : d ≡ 0 = eq-zero_of_zero-dvd (subst (λ x. (x * x) ∣ d) z h) in omega (arith, e, some)

pub none_found : (d k : ℕ) → 1 ≤ d → d < k * k → ((j : ℕ) → 2 ≤ j → j < k → ¬ ((j * j) ∣ d)) → IsSquareFree d
none_found d k some far before j h =
    let less : j < k = below_from_squares j k (omega (arith, le_of_dvd some h, far)) in
    let one : ¬ (2 ≤ j) = λ two. before j two less h in
    let none : ¬ (j ≡ 0) = λ z. zero_square d j some z h in
    omega (arith, one, none)

pub below_strictly : (d k : ℕ) → IsSquareFree d → 2 ≤ d → k * k ≤ d → k * k < d
below_strictly d k free two h = omega (arith, h, apart)
  where
    apart : ¬ (k * k ≡ d)
    apart s = let one : k ≡ 1 = free k (subst (λ x. (k * k) ∣ x) s (dvd_refl (k * k))) in omega (arith, s, two, one, ap (λ x. k * x) one)
