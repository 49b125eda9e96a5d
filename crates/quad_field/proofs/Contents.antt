-- Divisors of lists of K-integers.
use Rattle.std.proofs.Common.{◌≡◌, ℕ, zero, suc, ◌+◌, ◌*◌, ◌<◌, ◌≤◌, ◌≢◌, length, get_or, take, drop, set, [], ◌∷◌, ◌++◌, arith, ap, sym, refl, subst, ◌∙◌, add-one, below_more, get_or-set_other, length-set, to_z, of_z}
use mathlib.Core.Path.{subst₂}
use Rattle.std.specs.Prelude.{ℤ, pos, negsuc, neg_ℤ, ◌*ℤ◌, ◌<ℤ◌, List, map, unsigned_abs, FitsSigned}
use Rattle.std.specs.Int.{IsGcd, w64, w128}
use Rattle.std.specs.List.{All, AllWithin}
use Rattle.std.specs.Int.RustNames.{int_div, int_rem}
use Prim.Native.Nat.{◌∣◌}
use Rattle.std.proofs.lemmas.Int.{ints, quot-rem, quot_fits, quot_is, to_z-of_z, unsigned_abs-mul}
use Rattle.std.proofs.lemmas.Nat.Gcd.{dvd_antisymm, dvd_trans, dvd-zero, le_of_dvd, mod-eq-zero_of_dvd}
use Rattle.std.proofs.lemmas.List.{get_or_default}
use Rattle.std.proofs.lemmas.List.Elements.{All-map, All-same}
use Rattle.std.proofs.Math.Nat.{dvd_of_mul-dvd-mul_right, mul-dvd-mul_right, one-dvd}
use Rattle.quad_field.specs.declared.quad.Quad.{Quad}
use Rattle.quad_field.specs.Content.{DividesAll, DividesParts, IsCommonDivisor, IsPrimitive}
use Rattle.quad_field.specs.Quads.{quad, scaled, IsZero}

-- a division without rest
rest_zero : (n g : ℤ) → unsigned_abs g ∣ unsigned_abs n → int_rem n g ≡ pos 0
rest_zero (pos n) g h = ap pos (mod-eq-zero_of_dvd (unsigned_abs g) h)
rest_zero (negsuc n) g h = ap (λ k. neg_ℤ (pos k)) (mod-eq-zero_of_dvd (unsigned_abs g) h)

pub exact_quotient : (n g : ℤ) → unsigned_abs g ∣ unsigned_abs n → n ≡ int_div n g *ℤ g
exact_quotient n g h = omega (arith, ints, quot-rem n g, rest_zero n g h)

-- g is the content of the first i numbers of xs
pub record IsContentTo (xs : List Quad) (i g : ℕ) : Type 0 where
  pub divides : AllWithin (DividesParts g) xs 0 i
  pub greatest : (k : ℕ) → AllWithin (DividesParts k) xs 0 i → k ∣ g

-- what is true at each place below i, and at i, is true at each below i + 1
module _ (P : Quad → Type 0) (xs : List Quad) (i : ℕ) (e : Quad) (inside : i < length xs) where
  within_more : AllWithin P xs 0 i → P (get_or xs i e) → AllWithin P xs 0 (i + 1)
  within_more h here k d low under =
      below_more (λ k. P (get_or xs k d)) i (λ k l. h k d (omega arith) l) (subst P (get_or_default xs i e d inside) here) k under

module _ (xs : List Quad) (i g p r u v : ℕ) (e : Quad) (inside : i < length xs) (a : u ≡ unsigned_abs (get_or xs i e).a) (b : v ≡ unsigned_abs (get_or xs i e).b) where
  pub content_more : IsContentTo xs i g → IsGcd u v p → IsGcd g p r → IsContentTo xs (i + 1) r
  content_more c parts all = record {
    divides = within_more (DividesParts r) xs i e inside
        (λ k d low h. let q : DividesParts g (get_or xs k d) = c.divides k d low h in (dvd_trans r all.0 q.0, dvd_trans r all.0 q.1))
        (subst (λ n. r ∣ n) a (dvd_trans r all.1 parts.0), subst (λ n. r ∣ n) b (dvd_trans r all.1 parts.1));
    greatest = λ k h.
        let here : DividesParts k (get_or xs i e) = h i e (omega arith) (omega arith) in
        all.2 k (c.greatest k (λ m d low l. h m d low (omega arith))) (parts.2 k (subst (λ n. k ∣ n) (sym a) here.0) (subst (λ n. k ∣ n) (sym b) here.1));
  }

-- a divisor of the first i numbers that is 1 is the content of all
pub one_is_content : (xs : List Quad) (i : ℕ) → i < length xs → IsContentTo xs i 1 → (k : ℕ) → DividesAll k xs → k ∣ 1
one_is_content xs i inside c k all = c.greatest k (λ m d low h. all m d (omega arith))

pub one_divides : (xs : List Quad) → DividesAll 1 xs
one_divides xs k d h = (one-dvd _, one-dvd _)

-- ---- the numbers ys: the first i of them are those of xs divided by g, and the others are still those of xs
pub record IsDividedTo (g : ℕ) (xs ys : List Quad) (i : ℕ) : Type 0 where
  pub same : xs ≡ map (scaled (pos g)) (take i ys) ++ drop i ys
  pub rest : (k : ℕ) (d : Quad) → i ≤ k → k < length ys → DividesParts g (get_or ys k d)

pub divided_none : (g : ℕ) (xs : List Quad) → DividesAll g xs → IsDividedTo g xs xs 0
divided_none g xs all = record { same = refl; rest = λ k d low under. all k d under }

same_more : (g : ℤ) (ys : List Quad) (i : ℕ) (y e : Quad) → i < length ys → get_or ys i e ≡ scaled g y
    → map (scaled g) (take i ys) ++ drop i ys ≡ map (scaled g) (take (suc i) (set ys i y)) ++ drop (suc i) (set ys i y)
same_more g [] i y e h is = absurd (omega arith)
same_more g (x ∷ ys) zero y e h is = ap (λ x. x ∷ ys) is
same_more g (x ∷ ys) (suc i) y e h is = ap (λ t. scaled g x ∷ t) (same_more g ys i y e (omega arith) is)

pub divided_more : (g : ℕ) (xs ys : List Quad) (i : ℕ) (y e : Quad) → i < length ys → (get_or ys i e).a ≡ y.a *ℤ pos g → (get_or ys i e).b ≡ y.b *ℤ pos g
    → IsDividedTo g xs ys i → IsDividedTo g xs (set ys i y) (i + 1)
divided_more g xs ys i y e h a b c = record {
  same = rw add-one (c.same ∙ same_more (pos g) ys i y e h (subst₂ (λ s t. get_or ys i e ≡ quad s t) a b refl));
  rest = λ k d low under.
      let other : k ≢ i = omega arith in
      rw get_or-set_other (c.rest k d (omega arith) (omega (arith, length-set ys i y)));
}

-- one time a number
once : (x : Quad) → x ≡ scaled (pos 1) x
once x i = quad (part x.a i) (part x.b i)
  where
    part : (n : ℤ) → n ≡ n *ℤ pos 1
    part n = omega (arith, ints)

pub all_once : (xs : List Quad) → xs ≡ map (scaled (pos 1)) xs
all_once [] = refl
all_once (x ∷ xs) = (λ i. once x i ∷ xs) ∙ ap (λ t. scaled (pos 1) x ∷ t) (all_once xs)

-- ---- n / g where g divides n
-- where g is an i128
pub quotient_small : (n : ℤ) (g : ℕ) → FitsSigned w128 n → 0 < g → g ≤ 170141183460469231731687303715884105727 → g ∣ unsigned_abs n
    → n ≡ to_z w128 (of_z w128 (int_div (to_z w128 (of_z w128 n)) (to_z w128 g))) *ℤ pos g
quotient_small n g fits some small h =
    let g_fits : FitsSigned w128 (pos g) = omega (arith, ints) in
    let positive : pos 0 <ℤ pos g = omega (arith, ints) in
    exact_quotient n (pos g) h ∙ ap (λ q. q *ℤ pos g) (sym (quot_is w128 n (pos g) fits g_fits (quot_fits w128 n (pos g) fits positive)))

-- and in 64 bits
pub quotient_64 : (n g : ℤ) → FitsSigned w64 n → FitsSigned w64 g → pos 0 <ℤ g → unsigned_abs g ∣ unsigned_abs n
    → n ≡ to_z w64 (of_z w64 (int_div (to_z w64 (of_z w64 n)) (to_z w64 (of_z w64 g)))) *ℤ g
quotient_64 n g fits g_fits positive h =
    exact_quotient n g h ∙ ap (λ q. q *ℤ g) (sym (quot_is w64 n g fits g_fits (quot_fits w64 n g fits positive)))

-- what divides a number divides it in 64 bits
pub narrowed_divides : (n : ℤ) (g : ℕ) → FitsSigned w128 n → FitsSigned w64 n → g ≤ 9223372036854775807 → g ∣ unsigned_abs n
    → unsigned_abs (to_z w64 g) ∣ unsigned_abs (to_z w64 (of_z w64 (to_z w128 (of_z w128 n))))
narrowed_divides n g fits narrow small h =
    let g_fits : FitsSigned w64 (pos g) = omega (arith, ints) in
    subst₂ (λ (p q : ℤ). unsigned_abs p ∣ unsigned_abs q) (sym (to_z-of_z w64 (pos g) g_fits))
    (sym (ap (λ (z : ℤ). to_z w64 (of_z w64 z)) (to_z-of_z w128 n fits) ∙ to_z-of_z w64 n narrow)) h

-- where it is none, n is 0 or -g
pub quotient_large : (n : ℤ) (g : ℕ) → FitsSigned w128 n → 170141183460469231731687303715884105727 < g → n ≢ pos 0 → g ∣ unsigned_abs n → n ≡ neg_ℤ (pos (1 * g))
quotient_large n g fits large some h =
    let positive : 0 < unsigned_abs n = omega (arith, ints) in
    let le : g ≤ unsigned_abs n = le_of_dvd positive h in
    omega (arith, ints)

-- ---- what 0 divides is zero
zero_divides : (x : Quad) → DividesParts 0 x → IsZero x
zero_divides x h = (part x.a h.0, part x.b h.1)
  where
    part : (n : ℤ) → 0 ∣ unsigned_abs n → n ≡ pos 0
    part n h = let e : 0 ≡ unsigned_abs n = dvd_antisymm h (dvd-zero (unsigned_abs n)) in omega (arith, ints)

pub all_zero : (xs : List Quad) → DividesAll 0 xs → All IsZero xs
all_zero xs all k d h = zero_divides (get_or xs k d) (all k d h)

-- ---- the greatest common divisor of d and a list, where m is the list's
module _ (xs : List Quad) (d : ℤ) (u m g : ℕ) (some : pos 0 <ℤ d) (value : u ≡ unsigned_abs d) (is : IsGcd u m g) where
  common_some : 0 < g
  common_some = by_cases g is.0
    where
      by_cases : (g : ℕ) → g ∣ u → 0 < g
      by_cases zero h = let e : 0 ≡ u = dvd_antisymm h (dvd-zero u) in absurd (omega (arith, ints))
      by_cases (suc n) h = omega arith

  pub common_is : DividesAll m xs → ((k : ℕ) → DividesAll k xs → k ∣ m) → IsCommonDivisor xs d g
  common_is all greatest = record {
    positive = common_some;
    of_number = subst (λ n. g ∣ n) value is.0;
    of_list = λ k e h. (dvd_trans g is.1 (all k e h).0, dvd_trans g is.1 (all k e h).1);
    greatest = λ k p q. is.2 k (subst (λ n. k ∣ n) (sym value) p) (greatest k q);
  }

-- ---- what is left after a division
-- a divisor of z divides g times as often z·g
times : (k g : ℕ) (z : ℤ) → k ∣ unsigned_abs z → (k * g) ∣ unsigned_abs (z *ℤ pos g)
times k g z h = subst (λ m. (k * g) ∣ m) (sym (unsigned_abs-mul z (pos g))) (mul-dvd-mul_right k h g)

-- and one of a list the list times g
all_times : (k g : ℕ) (xs ys : List Quad) → xs ≡ map (scaled (pos g)) ys → DividesAll k ys → DividesAll (k * g) xs
all_times k g xs ys same all =
    All-same (DividesParts (k * g)) xs (map (scaled (pos g)) ys) same
    (All-map (DividesParts (k * g)) (scaled (pos g)) ys (λ i e h. (times k g (get_or ys i e).a (all i e h).0, times k g (get_or ys i e).b (all i e h).1)))

-- what divides g as often as g is 1
alone : (k g : ℕ) → 0 < g → (k * g) ∣ g → k ≡ 1
alone k g some h =
    let one : k ∣ 1 = dvd_of_mul-dvd-mul_right {k = g} k some (subst (λ m. (k * g) ∣ m) (omega arith) h) in
    dvd_antisymm one (one-dvd k)

pub primitive_left : (g : ℕ) (xs ys : List Quad) → 0 < g → ((k : ℕ) → DividesAll k xs → k ∣ g) → xs ≡ map (scaled (pos g)) ys → IsPrimitive ys
primitive_left g xs ys some greatest same k all = alone k g some (greatest (k * g) (all_times k g xs ys same all))

module _ (xs ys : List Quad) (d : ℤ) (g : ℕ) (q : ℤ) (c : IsCommonDivisor xs d g) (whole : d ≡ q *ℤ pos g) where
  pub quotient_some : pos 0 <ℤ d → pos 0 <ℤ q
  quotient_some some = by_cases q (subst (λ d. pos 0 <ℤ d) whole some)
    where
      by_cases : (q : ℤ) → pos 0 <ℤ (q *ℤ pos g) → pos 0 <ℤ q
      by_cases (pos zero) h = absurd (omega (arith, ints, h))
      by_cases (pos (suc n)) h = omega (arith, ints)
      by_cases (negsuc n) h = absurd (omega (arith, ints, h))

  pub nothing_common : xs ≡ map (scaled (pos g)) ys → (k : ℕ) → DividesAll k ys → k ∣ unsigned_abs q → k ≡ 1
  nothing_common same k all of_q =
      alone k g c.positive (c.greatest (k * g) (subst (λ d. (k * g) ∣ unsigned_abs d) (sym whole) (times k g q of_q)) (all_times k g xs ys same all))
