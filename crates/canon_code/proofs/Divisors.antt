-- What a number and the parts of two K-integers have in common.
use Rattle.std.proofs.Common.{◌≡◌, ℕ, zero, suc, ◌+◌, ◌*◌, ◌-◌, ◌/◌, ◌<◌, ◌≤◌, ◌^◌, [], ◌∷◌, sym, ap, ◌∙◌, subst, arith, to_z, of_z}
use Rattle.std.specs.Prelude.{ℤ, pos, ◌*ℤ◌, ◌<ℤ◌, unsigned_abs, FitsSigned}
use Rattle.std.specs.Int.{w128}
use Rattle.std.specs.Int.RustNames.{int_div, int_rem}
use Prim.Native.Nat.{◌∣◌}
use native.Mathlib.Nat.{le_refl, le_of_dvd, dvd_trans, dvd-zero, dvd-sub, dvd-mul_left, dvd-mul_right_of_dvd, mul-div_cancel'}
use Rattle.std.proofs.Math.Nat.{mul-sub, mul_assoc, eq-zero_of_zero-dvd}
use Rattle.std.proofs.lemmas.Int.{ints, fits_signed_from_abs, to_z_pos, quot-rem, quot_fits, quot_is, unsigned_abs-mul}
use Rattle.quad_field.specs.declared.quad.Quad.{Quad}
use Rattle.quad_field.specs.Quads.{quad}
use Rattle.quad_field.specs.Content.{DividesParts, DividesAll}
use Rattle.quad_field.proofs.CallerLemmas.{exact_quotient}
use Rattle.canon_code.specs.WholeFrames.{IsNoWholeMultiple}
use Rattle.canon_code.proofs.Scales.{common}

-- a quotient's divisor divides
pub quotient_divides : (n q g : ℤ) → n ≡ q *ℤ g → unsigned_abs g ∣ unsigned_abs n
quotient_divides n q g e = subst (λ z. unsigned_abs g ∣ z) (sym (ap unsigned_abs e ∙ unsigned_abs-mul q g)) (dvd-mul_left (unsigned_abs g) (unsigned_abs q))

-- n = (n / g)·g where g divides n, in 128 bits
pub quotient_is : (n g : ℤ) → FitsSigned w128 n → FitsSigned w128 g → pos 0 <ℤ g → unsigned_abs g ∣ unsigned_abs n
    → n ≡ to_z w128 (of_z w128 (int_div (to_z w128 (of_z w128 n)) (to_z w128 (of_z w128 g)))) *ℤ g
quotient_is n g fits g_fits positive h = exact_quotient n g h ∙ ap (λ q. q *ℤ g) (sym (quot_is w128 n g fits g_fits (quot_fits w128 n g fits positive)))

-- where a rest is left, n isn't a multiple of g
pub no_multiple : (n g : ℤ) → ¬ (int_rem n g ≡ pos 0) → IsNoWholeMultiple g n
no_multiple n g rest = λ q e.
    let exact : n ≡ int_div n g *ℤ g = exact_quotient n g (quotient_divides n q g e) in rest (omega (arith, ints, quot-rem n g, exact))

-- what divides the parts of three numbers divides their list
pub all_three : (k : ℕ) (a b c : Quad) → DividesParts k a → DividesParts k b → DividesParts k c → DividesAll k (a ∷ b ∷ c ∷ [])
all_three k a b c p q r zero z less = p
all_three k a b c p q r (suc zero) z less = q
all_three k a b c p q r (suc (suc zero)) z less = r
all_three k a b c p q r (suc (suc (suc i))) z less = absurd (omega (arith, less))

-- where k divides n times each of the numbers it divides n times their greatest common divisor
pub within_content : (g x y u v c : ℕ) → ((j : ℕ) → j ∣ g → j ∣ x → j ∣ y → j ∣ u → j ∣ v → j ∣ c) → (k n : ℕ)
    → k ∣ (n * g) → k ∣ (n * x) → k ∣ (n * y) → k ∣ (n * u) → k ∣ (n * v) → k ∣ (n * c)
within_content g x y u v c greatest k n p q r s t =
    let S : ℕ → Type 0 = λ j. k ∣ (n * j) in
    let closed : (a b : ℕ) → S a → S b → b ≤ a → S (a - b) = λ a b i j le. subst (λ z. k ∣ z) (sym (mul-sub n a b)) (dvd-sub k i j) in
    let one = common S closed (g + x) g x (le_refl (g + x)) p q in
    let two = common S closed (one.0 + y) one.0 y (le_refl (one.0 + y)) one.1 r in
    let three = common S closed (two.0 + u) two.0 u (le_refl (two.0 + u)) two.1 s in
    let four = common S closed (three.0 + v) three.0 v (le_refl (three.0 + v)) three.1 t in
    let j : ℕ = four.0 in
    let of_two : j ∣ two.0 = dvd_trans j four.2 three.2 in
    let of_one : j ∣ one.0 = dvd_trans j of_two two.2 in
    let h : j ∣ c = greatest j (dvd_trans j of_one one.2) (dvd_trans j of_one one.3) (dvd_trans j of_two two.3) (dvd_trans j four.2 three.3) four.3 in
    subst (λ z. k ∣ z) (mul_assoc n j (c / j) ∙ ap (λ z. n * z) (mul-div_cancel' j h)) (dvd-mul_right_of_dvd k {b = n * j} four.1 (c / j))

-- the greatest common divisor of a number above zero and the parts of two others, read from 128 bits
module _ (g : ℤ) (x y : Quad) (r : ℕ) (fits : FitsSigned w128 g) (positive : pos 0 <ℤ g) (each : DividesAll r (quad g (pos 0) ∷ x ∷ y ∷ []))
    (greatest : (k : ℕ) → DividesAll k (quad g (pos 0) ∷ x ∷ y ∷ []) → k ∣ r) where
  of_number : r ∣ unsigned_abs g
  of_number = (each 0 (quad (pos 0) (pos 0)) (omega arith)).0

  content_below : r ≤ unsigned_abs g
  content_below = le_of_dvd (omega (arith, ints, positive)) of_number

  content_small : r < 2 ^ 127
  content_small = omega (arith, ints, content_below, fits, positive)

  pub content_fits : FitsSigned w128 (pos r)
  content_fits = fits_signed_from_abs w128 (pos r) content_small

  read_is : to_z w128 r ≡ pos r
  read_is = to_z_pos w128 r content_small

  content_some : (n : ℕ) → r ≡ n → 0 < n
  content_some zero e = absurd (omega (arith, ints, positive, eq-zero_of_zero-dvd (subst (λ z. z ∣ unsigned_abs g) e of_number)))
  content_some (suc n) e = omega arith

  pub content_positive : pos 0 <ℤ to_z w128 r
  content_positive = subst (λ z. pos 0 <ℤ z) (sym read_is) (let k = content_some r (λ i. r) in omega (arith, ints, k))

  pub content_divides : unsigned_abs (to_z w128 r) ∣ unsigned_abs g
  content_divides = subst (λ z. unsigned_abs z ∣ unsigned_abs g) (sym read_is) of_number

  pub content_within : (k n : ℕ) → k ∣ (n * unsigned_abs g) → k ∣ (n * unsigned_abs x.a) → k ∣ (n * unsigned_abs x.b) → k ∣ (n * unsigned_abs y.a) → k ∣ (n * unsigned_abs y.b)
      → k ∣ (n * unsigned_abs (to_z w128 r))
  content_within k n p q s t u =
      subst (λ z. k ∣ (n * unsigned_abs z)) (sym read_is)
      (within_content (unsigned_abs g) (unsigned_abs x.a) (unsigned_abs x.b) (unsigned_abs y.a) (unsigned_abs y.b) r
      (λ j a b e f i. greatest j (all_three j (quad g (pos 0)) x y (a, dvd-zero j) (b, e) (f, i))) k n p q s t u)
