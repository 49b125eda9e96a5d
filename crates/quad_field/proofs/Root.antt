-- No square is D times a square, where D is no square itself: by descent.
use Rattle.std.proofs.Common.{◌≡◌, ℕ, zero, suc, ◌+◌, ◌*◌, ◌-◌, ◌<◌, ◌≤◌, ◌≢◌, arith, refl, ap, sym, subst, ◌∙◌}
use Rattle.std.proofs.lemmas.Nat.{mul-le}
use native.Mathlib.Nat.{le_refl, dvd_refl}
use Prim.Native.Nat.{◌∣◌}
use Rattle.quad_field.specs.FieldNumber.{IsSquareFree}
use native.Mathlib.Decide.{dec_lt}

-- squares are ordered as their roots
pub below_from_squares : (x y : ℕ) → x * x < y * y → x < y
below_from_squares x y h = grind arith

pub at_most_from_squares : (x y : ℕ) → x * x ≤ y * y → x ≤ y
at_most_from_squares x y h = grind arith

pub cancel : (x y b : ℕ) → 0 < b → x * b ≤ y * b → x ≤ y
cancel x y b some h = grind arith

no_square : (a : ℕ) → a * a ≡ 0 → a ≡ 0
no_square a h = grind arith

-- the whole part of the root
abbrev pub IsRoot : ℕ → ℕ → Type 0
IsRoot n k = (k * k ≤ n) × (n < suc k * suc k)

root_next : (n k : ℕ) → IsRoot n k → Dec (suc n < suc k * suc k) → (m : ℕ) × IsRoot (suc n) m
root_next n k h (yes p) = (k, (omega (arith, h.0), p))
root_next n k h (no p) = (suc k, omega (arith, h.1, p))

pub root_of : (n : ℕ) → (k : ℕ) × IsRoot n k
root_of zero = (0, (omega arith, omega arith))
root_of (suc n) = let r = root_of n in root_next n r.0 r.1 (dec_lt (suc n) (suc r.0 * suc r.0))

-- a = k·b + c and a² = (k² + e)·b² make c < b, and c's multiple (k² + e)·c² the square of e·b - k·c
module _ (k e b c m : ℕ) (p : (k * b + c) * (k * b + c) ≡ (k * k + e) * (b * b)) where
  -- e·b² = 2·k·b·c + c²
  pub part_is : e * (b * b) ≡ 2 * (k * (b * c)) + c * c
  part_is = omega (arith, p)

  pub step_square : m + k * c ≡ e * b → m * m ≡ (k * k + e) * (c * c)
  step_square q = omega (arith, part_is, ap (λ x. e * x) part_is, ap (λ x. x * x) q, ap (λ x. k * c * x) q)

  pub step_fits : 0 < b → k * c ≤ e * b
  step_fits some = cancel (k * c) (e * b) b some (omega (arith, part_is))

  -- c is no more than half of e·b / k
  not_greater : 0 < b → e < k + k + 1 → ¬ (b ≤ c)
  not_greater some q r =
      omega (arith, part_is, mul-le b b c c r r, mul-le k (b * b) k (b * c) (le_refl k) (mul-le b b b c (le_refl b) r), mul-le e (b * b) (k + k) (b * b) (omega arith) (le_refl (b * b)), mul-le 1 1 b b some some)

  pub step_less : 0 < b → e < k + k + 1 → c < b
  step_less some q = omega (arith, not_greater some q)

-- a² ≡ D·b² only at zero, by descent on a bound of b
descent : (k e : ℕ) → 0 < e → e < k + k + 1 → (n a b : ℕ) → b < n → a * a ≡ (k * k + e) * (b * b) → b ≡ 0
descent k e pos small zero a b lt p = absurd (omega arith)
descent k e pos small (suc n) a zero lt p = refl
descent k e pos small (suc n) a (suc b') lt p =
    let b = suc b' in
    let low : k * b ≤ a = at_most_from_squares (k * b) a (omega (arith, p)) in
    let c = a - k * b in
    let q : (k * b + c) * (k * b + c) ≡ (k * k + e) * (b * b) = subst (λ x. x * x ≡ (k * k + e) * (b * b)) (omega arith) p in
    let none : c ≡ 0 =
    descent k e pos small n (e * b - k * c) c (omega (arith, step_less k e b c 0 q (omega arith) small))
    (step_square k e b c (e * b - k * c) q (omega (arith, step_fits k e b c 0 q (omega arith))))
    in
    let some : 1 ≤ e * (b * b) = mul-le 1 1 e (b * b) pos (mul-le 1 1 b b (omega arith) (omega arith)) in
    absurd (omega (arith, some, part_is k e b c 0 q, ap (λ x. 2 * (k * b) * x) none, ap (λ x. c * x) none))

-- the root of a D without square divisors is irrational
pub irrational : (d : ℕ) → IsSquareFree d → 2 ≤ d → (a b : ℕ) → a * a ≡ d * (b * b) → (a ≡ 0) × (b ≡ 0)
irrational d free two a b p =
    let r = root_of d in
    let k = r.0 in
    let e = d - k * k in
    let apart : k * k ≢ d = λ s. let one : k ≡ 1 = free k (subst (λ x. (k * k) ∣ x) s (dvd_refl (k * k))) in omega (arith, s, one, ap (λ x. k * x) one) in
    let split : k * k + e ≡ d = omega (arith, r.1.0) in
    let q : a * a ≡ (k * k + e) * (b * b) = p ∙ ap (λ x. x * (b * b)) (sym split) in
    let none : b ≡ 0 = descent k e (omega (arith, r.1.0, apart)) (omega (arith, r.1)) (suc b) a b (omega arith) q in
    let square : a * a ≡ 0 = p ∙ ap (λ x. d * (x * x)) none ∙ omega arith in
    (no_square a square, none)
