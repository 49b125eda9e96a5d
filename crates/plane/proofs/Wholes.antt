-- The texts of whole numbers and of multiples of √D, and what is read from them.
use Rattle.std.proofs.Common.{◌≡◌, ◌≢◌, ◌↔◌, ℕ, zero, suc, ◌+◌, ◌-◌, ◌^◌, ◌<◌, ◌≤◌, ℤ, pos, negsuc, List, [], ◌∷◌, ◌++◌, length, get_or, take, drop, refl, ap, sym, ◌∙◌, subst, inl, inr, arith}
use Rattle.std.specs.Int.{IsInRange}
use Rattle.std.specs.Fmt.{signed_decimal}
use Rattle.std.proofs.lemmas.List.{take_more, take_all, append_cancel_right}
use Rattle.quad_field.specs.Width.{FitsI128}
use Rattle.plane.specs.declared.words.WholeWord.{WholeWord}
use Rattle.plane.specs.declared.words.WholeWord.TheVariants.{Value, Large, Not}
use Rattle.plane.specs.Spelling.{natural_text, whole_text, root_text}
use Rattle.plane.specs.Reading.{IsWholeRead, IsNonnegative, IsPositive, IsNegative, IsSign}
use Rattle.plane.proofs.Naturals.{natural_text_some, natural_text_at, natural_text_injective, natural_text-decimal}

-- what is read stays so where the spelling is the same in other words
pub same_reading : (P Q : ℤ → Type 0) → ((n : ℤ) → P n → Q n) → ((n : ℤ) → Q n → P n) → (r : WholeWord) → IsWholeRead P r → IsWholeRead Q r
same_reading P Q to back (Value n) read = (to n read.0, read.1)
same_reading P Q to back Large read = (read.0, to read.0 read.1, read.2)
same_reading P Q to back Not read = λ n q. read n (back n q)

-- what isn't refused is spelled
pub spelled : (P : ℤ → Type 0) (r : WholeWord) → IsWholeRead P r → r ≢ Not → (n : ℤ) × P n
spelled P (Value n) read taken = (n, read.0)
spelled P Large read taken = (read.0, read.1)
spelled P Not read taken = absurd (taken refl)

-- digits of a number that is too large
pub nonnegative_large : (digits : List ℕ) (n : ℕ) → digits ≡ natural_text n → 2 ^ 127 ≤ n → (x : ℤ) × IsNonnegative digits x × ¬ (FitsI128 x)
nonnegative_large digits n e large = (pos n, e, λ fits. let small = fits.sfits in omega arith)

pub negative_large : (digits : List ℕ) (n : ℕ) → digits ≡ natural_text n → 2 ^ 127 < n → (x : ℤ) × IsNegative digits x × ¬ (FitsI128 x)
negative_large digits zero e large = absurd (omega arith)
negative_large digits (suc n) e large = (negsuc n, e, λ fits. let small = fits.sfits in omega arith)

-- 0 has no sign
pub negative_zero : (digits : List ℕ) → digits ≡ natural_text 0 → (n : ℤ) → ¬ (IsNegative digits n)
negative_zero digits e (pos n) is = is
negative_zero digits e (negsuc n) is = let same = natural_text_injective 0 (suc n) (sym e ∙ is) in absurd (omega arith)

pub positive_zero : (digits : List ℕ) → IsNonnegative digits (pos 0) → (n : ℤ) → ¬ (IsPositive digits n)
positive_zero digits e (pos zero) is = is
positive_zero digits e (pos (suc n)) is = let same = natural_text_injective 0 (suc n) (sym e ∙ is) in absurd (omega arith)
positive_zero digits e (negsuc n) is = is

pub positive_from : (digits : List ℕ) (n : ℤ) → n ≢ pos 0 → IsNonnegative digits n → IsPositive digits n
positive_from digits (pos zero) nonzero is = absurd (nonzero refl)
positive_from digits (pos (suc n)) nonzero is = is
positive_from digits (negsuc n) nonzero is = is

pub positive_is : (digits : List ℕ) (n : ℤ) → IsPositive digits n → IsNonnegative digits n
positive_is digits (pos zero) is = absurd is
positive_is digits (pos (suc n)) is = is
positive_is digits (negsuc n) is = is

zero_fits : FitsI128 (pos 0)
zero_fits = record { sfits = omega arith }

pub positive_large : (digits : List ℕ) → (n : ℤ) × IsNonnegative digits n × ¬ (FitsI128 n) → (n : ℤ) × IsPositive digits n × ¬ (FitsI128 n)
positive_large digits large =
    (large.0, positive_from digits large.0 (λ e. large.2 (subst FitsI128 (sym e) zero_fits)) large.1, large.2)

-- behind a minus stand the digits of a number below 0
minus_to : (digits : List ℕ) (n : ℤ) → IsNegative digits n → 45 ∷ digits ≡ whole_text n
minus_to digits (pos n) is = absurd is
minus_to digits (negsuc n) is = ap (λ text. 45 ∷ text) is

natural_first : (n : ℕ) (c : ℕ) (cs : List ℕ) → c ∷ cs ≡ natural_text n → IsInRange 48 57 c
natural_first n c cs e = subst (IsInRange 48 57) (sym (ap (λ text. get_or text 0 0) e)) (natural_text_at n 0 (natural_text_some n))

minus_back : (digits : List ℕ) (n : ℤ) → 45 ∷ digits ≡ whole_text n → IsNegative digits n
minus_back digits (pos n) e = let digit = natural_first n 45 digits e in absurd (omega arith)
minus_back digits (negsuc n) e = cc

pub whole_minus : (word : List ℕ) (r : WholeWord) → (0 < length word) × (get_or word 0 0 ≡ 45) → IsWholeRead (IsNegative (drop 1 word)) r → IsWholeRead (λ n. word ≡ whole_text n) r
whole_minus [] r first read = absurd (omega (arith, first.0))
whole_minus (c ∷ digits) r first read =
    let same : c ≡ 45 = first.1 in
    same_reading (IsNegative digits) (λ n. c ∷ digits ≡ whole_text n)
    (λ n is. ap (λ b. b ∷ digits) same ∙ minus_to digits n is)
    (λ n e. minus_back digits n (ap (λ b. b ∷ digits) (sym same) ∙ e))
    r read

plain_to : (word : List ℕ) (n : ℤ) → IsNonnegative word n → word ≡ whole_text n
plain_to word (pos n) is = is
plain_to word (negsuc n) is = absurd is

plain_back : (word : List ℕ) → ¬ ((0 < length word) × (get_or word 0 0 ≡ 45)) → (n : ℤ) → word ≡ whole_text n → IsNonnegative word n
plain_back word plain (pos n) e = e
plain_back word plain (negsuc n) e =
    absurd (plain (subst (λ text. (0 < length text) × (get_or text 0 0 ≡ 45)) (sym e) (omega arith, refl)))

-- with no minus it is a natural number
pub whole_plain : (word : List ℕ) (r : WholeWord) → ¬ ((0 < length word) × (get_or word 0 0 ≡ 45)) → IsWholeRead (IsNonnegative word) r → IsWholeRead (λ n. word ≡ whole_text n) r
whole_plain word r plain read =
    same_reading (IsNonnegative word) (λ n. word ≡ whole_text n) (plain_to word) (plain_back word plain) r read

-- in i128 std's word for decimals says the same
pub whole_text-signed : (n : ℤ) → FitsI128 n → whole_text n ≡ signed_decimal n
whole_text-signed (pos n) fits = let small = fits.sfits in natural_text-decimal n (omega arith)
whole_text-signed (negsuc n) fits = let small = fits.sfits in ap (λ text. 45 ∷ text) (natural_text-decimal (suc n) (omega arith))

-- behind a sign stand the digits, and then `r`
plus_to : (digits : List ℕ) (n : ℤ) → IsPositive digits n → 43 ∷ (digits ++ 114 ∷ []) ≡ root_text n
plus_to digits (pos zero) is = absurd is
plus_to digits (pos (suc n)) is = ap (λ text. 43 ∷ (text ++ 114 ∷ [])) is
plus_to digits (negsuc n) is = absurd is

same_digits : (s t : ℕ) (xs ys : List ℕ) → s ∷ (xs ++ 114 ∷ []) ≡ t ∷ (ys ++ 114 ∷ []) → xs ≡ ys
same_digits s t xs ys e = append_cancel_right xs ys (114 ∷ []) (ap (drop 1) e)

same_signs : (s t : ℕ) (xs ys : List ℕ) → s ∷ xs ≡ t ∷ ys → s ≡ t
same_signs s t xs ys e = ap (λ text. get_or text 0 0) e

pub plus_back : (digits : List ℕ) (n : ℤ) → 43 ∷ (digits ++ 114 ∷ []) ≡ root_text n → IsPositive digits n
plus_back digits (pos zero) e = absurd (cc)
plus_back digits (pos (suc n)) e = same_digits 43 43 digits (natural_text (suc n)) e
plus_back digits (negsuc n) e = let sign = same_signs 43 45 _ _ e in absurd (omega arith)

root_minus_to : (digits : List ℕ) (n : ℤ) → IsNegative digits n → 45 ∷ (digits ++ 114 ∷ []) ≡ root_text n
root_minus_to digits (pos n) is = absurd is
root_minus_to digits (negsuc n) is = ap (λ text. 45 ∷ (text ++ 114 ∷ [])) is

pub root_minus_back : (digits : List ℕ) (n : ℤ) → 45 ∷ (digits ++ 114 ∷ []) ≡ root_text n → IsNegative digits n
root_minus_back digits (pos zero) e = absurd (cc)
root_minus_back digits (pos (suc n)) e = let sign = same_signs 45 43 _ _ e in absurd (omega arith)
root_minus_back digits (negsuc n) e = same_digits 45 45 digits (natural_text (suc n)) e

-- a word of two bytes or more that ends with `r`
pub ends_with_root : (word : List ℕ) (last : ℕ) → last + 1 ≡ length word → 0 < last → get_or word last 0 ≡ 114
    → word ≡ get_or word 0 0 ∷ (take (last - 1) (drop 1 word) ++ 114 ∷ [])
ends_with_root [] last long some root = absurd (omega arith)
ends_with_root (c ∷ rest) zero long some root = absurd (omega arith)
ends_with_root (c ∷ rest) (suc j) long some root =
    let before : suc j - 1 ≡ j = omega arith in
    let below : j < length rest = omega arith in
    let more = take_more rest j 0 below in
    let all = take_all (j + 1) rest (omega arith) in
    rw (before) (ap (λ text. c ∷ text) (sym all ∙ (more ∙ ap (λ b. take j rest ++ b ∷ []) root)))

pub root_plus : (word : List ℕ) (last : ℕ) (r : WholeWord) → last + 1 ≡ length word → 0 < last → get_or word last 0 ≡ 114
    → get_or word 0 0 ≡ 43 → IsWholeRead (IsPositive (take (last - 1) (drop 1 word))) r → IsWholeRead (λ n. word ≡ root_text n) r
root_plus word last r long some root sign read =
    let digits = take (last - 1) (drop 1 word) in
    let shape : word ≡ 43 ∷ (digits ++ 114 ∷ []) = ends_with_root word last long some root ∙ ap (λ b. b ∷ (digits ++ 114 ∷ [])) sign in
    same_reading (IsPositive digits) (λ n. word ≡ root_text n)
    (λ n is. shape ∙ plus_to digits n is) (λ n e. plus_back digits n (sym shape ∙ e)) r read

pub root_minus : (word : List ℕ) (last : ℕ) (r : WholeWord) → last + 1 ≡ length word → 0 < last → get_or word last 0 ≡ 114
    → get_or word 0 0 ≡ 45 → IsWholeRead (IsNegative (take (last - 1) (drop 1 word))) r → IsWholeRead (λ n. word ≡ root_text n) r
root_minus word last r long some root sign read =
    let digits = take (last - 1) (drop 1 word) in
    let shape : word ≡ 45 ∷ (digits ++ 114 ∷ []) = ends_with_root word last long some root ∙ ap (λ b. b ∷ (digits ++ 114 ∷ [])) sign in
    same_reading (IsNegative digits) (λ n. word ≡ root_text n)
    (λ n is. shape ∙ root_minus_to digits n is) (λ n e. root_minus_back digits n (sym shape ∙ e)) r read

-- a multiple of √D begins with a sign where it isn't 0
pub root_sign : (n : ℤ) → 0 < length (root_text n) → IsSign (get_or (root_text n) 0 0)
root_sign (pos zero) some = absurd (omega arith)
root_sign (pos (suc n)) some = inl refl
root_sign (negsuc n) some = inr refl

-- one text a number
pub whole_injective : (m n : ℤ) → whole_text m ≡ whole_text n → m ≡ n
whole_injective (pos m) (pos n) e = ap pos (natural_text_injective m n e)
whole_injective (pos m) (negsuc n) e = let digit = natural_first m 45 (natural_text (suc n)) (sym e) in absurd (omega arith)
whole_injective (negsuc m) (pos n) e = let digit = natural_first n 45 (natural_text (suc m)) e in absurd (omega arith)
whole_injective (negsuc m) (negsuc n) e = let same = natural_text_injective (suc m) (suc n) (ap (drop 1) e) in cc

-- a reading says which whole number the word spells
pub whole_value : (word : List ℕ) (r : WholeWord) → IsWholeRead (λ n. word ≡ whole_text n) r → (n : ℤ) → (r ≡ Value n) ↔ ((word ≡ whole_text n) × FitsI128 n)
whole_value word (Value m) read n = (
  λ e. let same : m ≡ n = cc in subst (λ k. (word ≡ whole_text k) × FitsI128 k) same read,
  λ h. ap Value (whole_injective m n (sym read.0 ∙ h.0)),
)
whole_value word Large read n = (
  λ e. absurd (cc),
  λ h. let same = whole_injective read.0 n (sym read.1 ∙ h.0) in absurd (read.2 (subst FitsI128 (sym same) h.1)),
)
whole_value word Not read n = (λ e. absurd (cc), λ h. absurd (read n h.0))

pub whole_large : (word : List ℕ) (r : WholeWord) → IsWholeRead (λ n. word ≡ whole_text n) r → (r ≡ Large) ↔ ((n : ℤ) × (word ≡ whole_text n) × ¬ (FitsI128 n))
whole_large word (Value m) read = (
  λ e. absurd (cc),
  λ h. let same = whole_injective m h.0 (sym read.0 ∙ h.1) in absurd (h.2 (subst FitsI128 same read.1)),
)
whole_large word Large read = (λ e. read, λ h. refl)
whole_large word Not read = (λ e. absurd (cc), λ h. absurd (read h.0 h.1))

pub whole_not : (word : List ℕ) (r : WholeWord) → IsWholeRead (λ n. word ≡ whole_text n) r → (r ≡ Not) ↔ ((n : ℤ) → word ≢ whole_text n)
whole_not word (Value m) read = (λ e. absurd (cc), λ h. absurd (h m read.0))
whole_not word Large read = (λ e. absurd (cc), λ h. absurd (h read.0 read.1))
whole_not word Not read = (λ e. read, λ h. refl)

positive_injective : (m : ℕ) (n : ℤ) → IsPositive (natural_text (suc m)) n → pos (suc m) ≡ n
positive_injective m (pos zero) is = absurd is
positive_injective m (pos (suc n)) is = ap pos (natural_text_injective (suc m) (suc n) is)
positive_injective m (negsuc n) is = absurd is

negative_injective : (m : ℕ) (n : ℤ) → IsNegative (natural_text (suc m)) n → negsuc m ≡ n
negative_injective m (pos n) is = absurd is
negative_injective m (negsuc n) is = let same = natural_text_injective (suc m) (suc n) is in cc

pub root_injective : (m n : ℤ) → root_text m ≡ root_text n → m ≡ n
root_injective (pos zero) (pos zero) e = refl
root_injective (pos zero) (pos (suc n)) e = absurd (cc)
root_injective (pos zero) (negsuc n) e = absurd (cc)
root_injective (pos (suc m)) n e = positive_injective m n (plus_back (natural_text (suc m)) n e)
root_injective (negsuc m) n e = negative_injective m n (root_minus_back (natural_text (suc m)) n e)
