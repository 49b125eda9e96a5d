-- Numbers and fractions, and the texts that they have.
use Rattle.std.proofs.Common.{◌≡◌, ◌≢◌, ℕ, zero, suc, ◌+◌, ◌<◌, ◌≤◌, ℤ, pos, negsuc, ◌≤ℤ◌, List, [], ◌∷◌, ◌++◌, map, refl, ap, sym, ◌∙◌, subst, arith}
use Rattle.std.specs.List.{AllByRecursion}
use Rattle.std.specs.Int.Digits.{digits_of}
use Rattle.std.proofs.lemmas.Int.{ints}
use Rattle.plane.specs.Spelling.{natural_text, whole_text}
use Rattle.surface_text.specs.declared.fronts.Reading.{Reading}
use Rattle.surface_text.specs.declared.fronts.Reading.TheVariants as reading
use Rattle.surface_text.specs.Limits.{IsBounded}
use Rattle.surface_text.specs.Spelling.{denominator_text}
use Rattle.surface_text.specs.Readings.{IsReading, IsOneBeyond, IsNegative, IsDenominator}

-- the stop isn't among the bytes
abbrev pub Lacks : ℕ → List ℕ → Type 0
Lacks stop bytes = AllByRecursion (λ byte. byte ≢ stop) bytes

-- texts joined lack what each lacks
pub lacks_both : (stop : ℕ) (xs ys : List ℕ) → Lacks stop xs → Lacks stop ys → Lacks stop (xs ++ ys)
lacks_both stop [] ys left right = right
lacks_both stop (x ∷ xs) ys left right = (left.0, lacks_both stop xs ys left.1 right)

-- no digit is below 48
glyphs_lack : (stop : ℕ) (digits : List ℕ) → stop < 48 → Lacks stop (map (λ digit. 48 + digit) digits)
glyphs_lack stop [] small = tt
glyphs_lack stop (d ∷ digits) small = (λ e. omega arith, glyphs_lack stop digits small)

-- the text of a natural number has no byte below 48
pub natural_text_lacks : (stop n : ℕ) → stop < 48 → Lacks stop (natural_text n)
unfolding natural_text
natural_text_lacks stop zero small = (λ e. omega arith, tt)
natural_text_lacks stop (suc n) small = glyphs_lack stop (digits_of 10 (suc n)) small

-- nor has that of a whole number, but for its sign
pub whole_text_lacks : (stop : ℕ) (n : ℤ) → stop < 48 → stop ≢ 45 → Lacks stop (whole_text n)
whole_text_lacks stop (pos n) small other = natural_text_lacks stop n small
whole_text_lacks stop (negsuc n) small other = (λ e. other (sym e), natural_text_lacks stop (suc n) small)

-- a reading in other words
pub same_reading : {X : Type 0} (P Q F : X → Type 0) → ((x : X) → P x → Q x) → ((x : X) → Q x → P x) → (r : Reading X) → IsReading P F r → IsReading Q F r
same_reading P Q F to back (reading.Value x) is =
    record { found = to x is.found; fits = is.fits; only = λ y q. is.only y (back y q) }
same_reading P Q F to back reading.Large is =
    record { x = is.x; found = to is.x is.found; beyond = λ y q. is.beyond y (back y q) }
same_reading P Q F to back reading.Not none = λ x q. none x (back x q)

-- a large number below 0
pub negative_large : (digits : List ℕ) → IsOneBeyond (λ n. digits ≡ natural_text n) (λ n. n ≤ 1000000000)
    → IsOneBeyond (IsNegative digits) IsBounded
negative_large digits one =
    let beyond = negative_beyond digits one in
    let above : ¬ (one.x ≤ 1000000000) = one.beyond one.x one.found in
    step one.x one.found above beyond
  where
    step : (n : ℕ) → digits ≡ natural_text n → ¬ (n ≤ 1000000000) → ((y : ℤ) → IsNegative digits y → ¬ (IsBounded y)) → IsOneBeyond (IsNegative digits) IsBounded
    step zero e above beyond = absurd (above (omega arith))
    step (suc n) e above beyond = record { x = negsuc n; found = e; beyond = beyond }

    negative_beyond : (bytes : List ℕ) → IsOneBeyond (λ n. bytes ≡ natural_text n) (λ n. n ≤ 1000000000) → (y : ℤ) → IsNegative bytes y → ¬ (IsBounded y)
    negative_beyond bytes is (pos n) spelled bounded = absurd spelled
    negative_beyond bytes is (negsuc n) spelled bounded = is.beyond (suc n) spelled bounded

-- a sign and digits are a whole number below 0
minus_to : (digits : List ℕ) (n : ℤ) → IsNegative digits n → 45 ∷ digits ≡ whole_text n
minus_to digits (pos n) is = absurd is
minus_to digits (negsuc n) is = ap (λ (end : List ℕ). 45 ∷ end) is

-- no text of a natural number begins with a sign
no_sign : (digits : List ℕ) (n : ℕ) → 45 ∷ digits ≢ natural_text n
no_sign digits n e =
    let lacks : Lacks 45 (45 ∷ digits) = subst (Lacks 45) (sym e) (natural_text_lacks 45 n (omega arith)) in
    lacks.0 refl

minus_back : (digits : List ℕ) (n : ℤ) → 45 ∷ digits ≡ whole_text n → IsNegative digits n
minus_back digits (pos n) e = absurd (no_sign digits n e)
minus_back digits (negsuc n) e = cc

pub whole_minus : (text digits : List ℕ) (r : Reading ℤ) → text ≡ 45 ∷ digits → IsReading (IsNegative digits) IsBounded r → IsReading (λ n. text ≡ whole_text n) IsBounded r
whole_minus text digits r head read =
    same_reading (IsNegative digits) (λ n. text ≡ whole_text n) IsBounded (λ n is. head ∙ minus_to digits n is) (λ n e. minus_back digits n (sym head ∙ e)) r read

-- what no sign begins is a natural number
plain_back : (text : List ℕ) → ((rest : List ℕ) → text ≢ 45 ∷ rest) → (n : ℤ) → text ≡ whole_text n → (k : ℕ) × (n ≡ pos k) × (text ≡ natural_text k)
plain_back text none (pos k) e = (k, refl, e)
plain_back text none (negsuc k) e = absurd (none (natural_text (suc k)) e)

pub whole_large : (text : List ℕ) → ((rest : List ℕ) → text ≢ 45 ∷ rest) → IsOneBeyond (λ n. text ≡ natural_text n) (λ n. n ≤ 1000000000)
    → IsOneBeyond (λ n. text ≡ whole_text n) IsBounded
whole_large text none one =
    record {
      x = pos one.x;
      found = one.found;
      beyond = λ y e bounded. let k = plain_back text none y e in
          one.beyond k.0 k.2 (subst IsBounded k.1 bounded);
    }

-- what `/` begins is a denominator of at least 2
slash_back : (digits : List ℕ) (d : ℤ) → pos 1 ≤ℤ d → 47 ∷ digits ≡ denominator_text d → (k : ℕ) × (d ≡ pos k) × (digits ≡ natural_text k) × (2 ≤ k)
slash_back digits (pos zero) low e = absurd (omega (arith, ints))
slash_back digits (pos (suc zero)) low e = absurd (cc)
slash_back digits (pos (suc (suc k))) low e = (suc (suc k), refl, cc, omega arith)
slash_back digits (negsuc k) low e = absurd (omega (arith, ints))

slash_to : (digits : List ℕ) (k : ℕ) → 2 ≤ k → digits ≡ natural_text k → 47 ∷ digits ≡ denominator_text (pos k)
slash_to digits zero low e = absurd (omega arith)
slash_to digits (suc zero) low e = absurd (omega arith)
slash_to digits (suc (suc k)) low e = ap (λ (end : List ℕ). 47 ∷ end) e

pub denominator_large : (tail digits : List ℕ) → tail ≡ 47 ∷ digits → IsOneBeyond (λ n. digits ≡ natural_text n) (λ n. n ≤ 1000000000)
    → IsOneBeyond (IsDenominator tail) IsBounded
denominator_large tail digits head one =
    let above : ¬ (one.x ≤ 1000000000) = one.beyond one.x one.found in
    record {
      x = pos one.x;
      found = (head ∙ slash_to digits one.x (omega arith) one.found, omega (arith, ints));
      beyond = λ d is bounded. let b = slash_back digits d is.1 (sym head ∙ is.0) in one.beyond b.0 b.2 (subst IsBounded b.1 bounded);
    }
