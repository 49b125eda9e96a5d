-- The texts of natural numbers: digits with no leading zero, one text a number.
use Rattle.std.proofs.Common.{◌≡◌, ◌≢◌, ◌↔◌, ℕ, zero, suc, ◌+◌, ◌-◌, ◌*◌, ◌/◌, ◌%◌, ◌^◌, ◌<◌, ◌≤◌, List, [], ◌∷◌, ◌++◌, map, length, get_or, take, Option, Some, None, MatchOption, SomeIff, refl, ap, sym, ◌∙◌, subst, arith, append_assoc}
use Rattle.std.specs.Prelude.{decimal}
use Rattle.std.specs.Char.{digit_value}
use Rattle.std.specs.Int.{IsInRange}
use Rattle.std.specs.Str.Parse.{digits_value, digits_value_after, AllDigits}
use Rattle.std.specs.Int.Digits.{digits_of, AllBelowBase, number_from_digits}
use Rattle.std.proofs.lemmas.Int.Digits.{digits_of_step, length-digits_of_step, all_below_base_digits_of, first_digits_of, number_digits_of, digits_value_is, digits_more, digits_value_more}
use Rattle.std.proofs.lemmas.List.{append-nil, map_push, length-map, take_all}
use Rattle.std.proofs.lemmas.Str.{digit_value_digit}
use Rattle.std.proofs.lemmas.Str.Parse.{digit_from_value, digit_at}
use Rattle.std.proofs.lemmas.Fmt.{decimal_by_steps_wide}
use Rattle.plane.specs.declared.words.NaturalWord.{NaturalWord}
use Rattle.plane.specs.declared.words.NaturalWord.TheVariants.{Value, Large, Not}
use Rattle.plane.specs.Spelling.{natural_text}
use Rattle.plane.specs.Reading.{IsNaturalRead}

-- what the text of a natural number looks like
pub record IsNatural (word : List ℕ) : Type 0 where
  pub digits : AllDigits 10 word
  pub some : 0 < length word
  pub first : get_or word 0 0 ≡ 48 → length word ≡ 1

-- the byte of a digit
abbrev pub glyph : ℕ → ℕ
glyph digit = 48 + digit

pub natural_text_positive : (n : ℕ) → 0 < n → natural_text n ≡ map glyph (digits_of 10 n)
unfolding natural_text
natural_text_positive zero h = absurd (omega arith)
natural_text_positive (suc n) h = refl

pub value_of_glyph : (d : ℕ) → d < 10 → digit_value (glyph d) ≡ d
value_of_glyph d h = let e = digit_value_digit (48 + d) (omega arith, omega arith) in omega arith

pub glyph_of_value : (c : ℕ) → digit_value c < 10 → glyph (digit_value c) ≡ c
glyph_of_value c h = let e = digit_value_digit c (digit_from_value c h) in omega arith

-- one digit more
pub natural_text_push : (n d : ℕ) → 0 < n → d < 10 → natural_text (n * 10 + d) ≡ natural_text n ++ glyph d ∷ []
natural_text_push n d positive small =
    let quotient : (n * 10 + d) / 10 ≡ n = omega arith in
    let rest : (n * 10 + d) % 10 ≡ d = omega arith in
    let step = digits_of_step 10 (n * 10 + d) (omega arith) (omega arith) in
    let front = natural_text_positive n positive in
    let whole = natural_text_positive (n * 10 + d) (omega arith) in
    let pushed = map_push glyph (digits_of 10 n) d in
    whole ∙ (ap (map glyph) (rw (quotient, rest) at step) ∙ (pushed ∙ ap (λ text. text ++ glyph d ∷ []) (sym front)))

-- a number of one digit
pub natural_text_digit : (d : ℕ) → d < 10 → natural_text d ≡ glyph d ∷ []
unfolding natural_text
natural_text_digit zero small = refl
natural_text_digit (suc d) small =
    let quotient : suc d / 10 ≡ 0 = omega arith in
    let rest : suc d % 10 ≡ suc d = omega arith in
    let step = digits_of_step 10 (suc d) (omega arith) (omega arith) in
    let text = ap (map glyph) step in
    natural_text_positive (suc d) (omega arith) ∙ (text ∙ rw (quotient, rest) refl)

-- more digits
pub natural_text_after : (n : ℕ) (cs : List ℕ) → 0 < n → AllDigits 10 cs → natural_text (digits_value_after 10 n cs) ≡ natural_text n ++ cs
natural_text_after n [] positive all = sym (append-nil (natural_text n))
natural_text_after n (c ∷ cs) positive all =
    let step = natural_text_push n (digit_value c) positive all.0 in
    let more = natural_text_after (n * 10 + digit_value c) cs (omega arith) all.1 in
    let glyph_is = glyph_of_value c all.0 in
    more ∙ (ap (λ text. text ++ cs) (rw glyph_is at step) ∙ append_assoc (natural_text n) (c ∷ []) cs)

positive_first : (c n : ℕ) → digit_value c < 10 → (c ≡ 48 → suc n ≡ 1) → 0 < n → 0 < digit_value c
positive_first c n small first long = grind (arith, glyph_of_value c small)

-- digits with no leading zero are the text of their value
pub natural_text_of : (word : List ℕ) → IsNatural word → word ≡ natural_text (digits_value 10 word)
natural_text_of [] is = absurd (omega (arith, is.some))
natural_text_of (c ∷ []) is =
    let same : 0 + digit_value c ≡ digit_value c = omega arith in
    let one = natural_text_digit (digit_value c) is.digits.0 in
    rw (same, one, glyph_of_value c is.digits.0) refl
natural_text_of (c ∷ d ∷ cs) is =
    let same : 0 + digit_value c ≡ digit_value c = omega arith in
    let glyph_is = glyph_of_value c is.digits.0 in
    let positive : 0 < digit_value c = positive_first c (suc (length cs)) is.digits.0 is.first (omega arith) in
    let after = natural_text_after (digit_value c) (d ∷ cs) positive is.digits.1 in
    let one = natural_text_digit (digit_value c) is.digits.0 in
    let whole = rw (one, glyph_is) at after in
    rw same (sym whole)

all_digits_of_glyphs : (ds : List ℕ) → AllBelowBase 10 ds → AllDigits 10 (map glyph ds)
all_digits_of_glyphs [] all = tt
all_digits_of_glyphs (d ∷ ds) all = (rw (value_of_glyph d all.0) all.0, all_digits_of_glyphs ds all.1)

values_of_glyphs : (ds : List ℕ) → AllBelowBase 10 ds → map digit_value (map glyph ds) ≡ ds
values_of_glyphs [] all = refl
values_of_glyphs (d ∷ ds) all = let e = value_of_glyph d all.0 in let f = values_of_glyphs ds all.1 in cc

first_of_glyphs : (ds : List ℕ) → 0 < get_or ds 0 0 → get_or (map glyph ds) 0 0 ≡ glyph (get_or ds 0 0)
first_of_glyphs [] h = absurd (omega arith)
first_of_glyphs (d ∷ ds) h = refl

pub natural_text_is : (n : ℕ) → IsNatural (natural_text n)
unfolding natural_text
natural_text_is zero = record { digits = (omega arith, tt); some = omega arith; first = λ e. refl }
natural_text_is (suc n) =
    let below = all_below_base_digits_of 10 (suc n) (omega arith) in
    let step = length-digits_of_step 10 (suc n) (omega arith) (omega arith) in
    let long = length-map (digits_of 10 (suc n)) glyph in
    let lead = first_digits_of 10 (suc n) (omega arith) (omega arith) in
    let head = first_of_glyphs (digits_of 10 (suc n)) lead in
    record {
      digits = all_digits_of_glyphs (digits_of 10 (suc n)) below;
      some = omega (arith, step, long);
      first = λ e. absurd (omega (arith, e, head, lead));
    }

pub natural_text_value : (n : ℕ) → digits_value 10 (natural_text n) ≡ n
unfolding natural_text
natural_text_value zero = refl
natural_text_value (suc n) =
    let below = all_below_base_digits_of 10 (suc n) (omega arith) in
    let value = digits_value_is 10 (map glyph (digits_of 10 (suc n))) in
    let digits = values_of_glyphs (digits_of 10 (suc n)) below in
    value ∙ (ap (number_from_digits 10) digits ∙ number_digits_of 10 (suc n) (omega arith))

pub natural_text_injective : (m n : ℕ) → natural_text m ≡ natural_text n → m ≡ n
natural_text_injective m n e = sym (natural_text_value m) ∙ (ap (digits_value 10) e ∙ natural_text_value n)

-- below 10^64 std's word for decimals says the same
pub natural_text-decimal : (n : ℕ) → n < 10 ^ 64 → natural_text n ≡ decimal n
natural_text-decimal n small = decimal_by_steps_wide (λ m ds. natural_text m ≡ ds) natural_text_digit
    (λ m ds big e.
    let step = natural_text_push (m / 10) (m % 10) (omega arith) (omega arith) in
    let whole : m / 10 * 10 + m % 10 ≡ m = omega arith in
    rw (whole) at step ∙ ap (λ text. text ++ glyph (m % 10) ∷ []) e)
    n small

-- what doesn't look so is the text of no number
pub not_natural : (word : List ℕ) → ¬ (IsNatural word) → (n : ℕ) → word ≢ natural_text n
not_natural word refuted n e = refuted (subst IsNatural (sym e) (natural_text_is n))

pub not_natural_at : (word : List ℕ) (i : ℕ) → i < length word → ¬ (IsInRange 48 57 (get_or word i 0)) → (n : ℕ) → word ≢ natural_text n
not_natural_at word i below refuted = not_natural word (λ is. refuted (digit_at word i is.digits below))

-- the digits read so far, and their value, or None from 2^128 on
pub record IsSoFar (front : List ℕ) (value : Option ℕ) : Type 0 where
  pub digits : AllDigits 10 front
  pub exact : MatchOption value (2 ^ 128 ≤ digits_value 10 front) (λ n. (n ≡ digits_value 10 front) × (n < 2 ^ 128))

value_more : (value byte : ℕ) (v w : Option ℕ) → digit_value byte + 48 ≡ byte
    → MatchOption v (w ≡ None) (λ n. SomeIff w (n * 10 + (byte - 48) < 2 ^ 128) (n * 10 + (byte - 48)))
    → MatchOption v (2 ^ 128 ≤ value) (λ n. (n ≡ value) × (n < 2 ^ 128))
    → MatchOption w (2 ^ 128 ≤ value * 10 + digit_value byte) (λ n. (n ≡ value * 10 + digit_value byte) × (n < 2 ^ 128))
value_more value byte None None digit step so_far = omega arith
value_more value byte None (Some n) digit step so_far = absurd (cc)
value_more value byte (Some m) None digit step so_far = let same = so_far.0 in omega arith
value_more value byte (Some m) (Some n) digit step so_far =
    let same = so_far.0 in let bound = step.0 in let is = step.1 in (omega arith, omega arith)

pub so_far_more : (word : List ℕ) (i : ℕ) (v w : Option ℕ) → i < length word → digit_value (get_or word i 0) < 10
    → MatchOption v (w ≡ None) (λ n. SomeIff w (n * 10 + (get_or word i 0 - 48) < 2 ^ 128) (n * 10 + (get_or word i 0 - 48)))
    → IsSoFar (take i word) v → IsSoFar (take (i + 1) word) w
so_far_more word i v w below small step so_far =
    let digit = digit_value_digit (get_or word i 0) (digit_from_value (get_or word i 0) small) in
    record {
      digits = digits_more 10 word i below so_far.digits small;
      exact = rw (digits_value_more 10 word i below) (value_more (digits_value 10 (take i word)) (get_or word i 0) v w digit step so_far.exact);
    }

not_more : (n : ℕ) → 0 < n → ¬ (1 < n) → n ≡ 1
not_more n some refuted = omega arith

value_read : (word : List ℕ) (v : Option ℕ) → word ≡ natural_text (digits_value 10 word)
    → MatchOption v (2 ^ 128 ≤ digits_value 10 word) (λ n. (n ≡ digits_value 10 word) × (n < 2 ^ 128))
    → MatchOption v ((n : ℕ) × (word ≡ natural_text n) × ¬ (n < 2 ^ 128)) (λ n. (word ≡ natural_text n) × (n < 2 ^ 128))
value_read word None text exact = (digits_value 10 word, text, λ below. omega arith)
value_read word (Some n) text exact = (text ∙ ap natural_text (sym exact.0), exact.1)

pub so_far_all : (word : List ℕ) (i : ℕ) (v : Option ℕ) → length word ≤ i → 0 < length word → ¬ ((get_or word 0 0 ≡ 48) × (1 < length word))
    → IsSoFar (take i word) v
    → MatchOption v ((n : ℕ) × (word ≡ natural_text n) × ¬ (n < 2 ^ 128)) (λ n. (word ≡ natural_text n) × (n < 2 ^ 128))
so_far_all word i v end some lead so_far =
    let whole : IsSoFar word v = rw (take_all i word end) at so_far in
    let first : get_or word 0 0 ≡ 48 → length word ≡ 1 = λ zero_first. not_more (length word) some (λ long. lead (zero_first, long)) in
    value_read word v (natural_text_of word (record { digits = whole.digits; some = some; first = first })) whole.exact

pub natural_text_some : (n : ℕ) → 0 < length (natural_text n)
natural_text_some n = let is = natural_text_is n in is.some

pub natural_text_at : (n k : ℕ) → k < length (natural_text n) → IsInRange 48 57 (get_or (natural_text n) k 0)
natural_text_at n k below = let is = natural_text_is n in digit_at (natural_text n) k is.digits below

-- a reading says which number the word spells
pub natural_value : (word : List ℕ) (r : NaturalWord) → IsNaturalRead word r → (n : ℕ) → (r ≡ Value n) ↔ ((word ≡ natural_text n) × (n < 2 ^ 128))
natural_value word (Value m) read n = (
  λ e. let same : m ≡ n = cc in (read.0 ∙ ap natural_text same, subst (λ k. k < 2 ^ 128) same read.1),
  λ h. ap Value (natural_text_injective m n (sym read.0 ∙ h.0)),
)
natural_value word Large read n = (
  λ e. absurd (cc),
  λ h. let same = natural_text_injective read.0 n (sym read.1 ∙ h.0) in absurd (read.2 (subst (λ k. k < 2 ^ 128) (sym same) h.1)),
)
natural_value word Not read n = (λ e. absurd (cc), λ h. absurd (read n h.0))

pub natural_large : (word : List ℕ) (r : NaturalWord) → IsNaturalRead word r → (r ≡ Large) ↔ ((n : ℕ) × (word ≡ natural_text n) × ¬ (n < 2 ^ 128))
natural_large word (Value m) read = (
  λ e. absurd (cc),
  λ h. let same = natural_text_injective m h.0 (sym read.0 ∙ h.1) in absurd (h.2 (subst (λ k. k < 2 ^ 128) same read.1)),
)
natural_large word Large read = (λ e. read, λ h. refl)
natural_large word Not read = (λ e. absurd (cc), λ h. absurd (read h.0 h.1))

pub natural_not : (word : List ℕ) (r : NaturalWord) → IsNaturalRead word r → (r ≡ Not) ↔ ((n : ℕ) → word ≢ natural_text n)
natural_not word (Value m) read = (λ e. absurd (cc), λ h. absurd (h m read.0))
natural_not word Large read = (λ e. absurd (cc), λ h. absurd (h read.0 read.1))
natural_not word Not read = (λ e. read, λ h. refl)
