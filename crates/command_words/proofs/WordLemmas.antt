-- What clap makes of the words of a line.
use Rattle.std.proofs.Common.{◌≡◌, ◌∙◌, ◌||◌, ℕ, ◌+◌, ◌≤◌, arith, Bool, true, false, cond, List, [], ◌∷◌, ◌++◌, length, take, drop, Some, None, refl, ap, ap₂, sym, append_assoc}
use Rattle.std.specs.Prelude.{◌==◌}
use Rattle.std.specs.List.{AllByRecursion, position_or_len, before_first, after_first}
use Rattle.std.specs.Str.{bytes_eq}
use Rattle.std.proofs.lemmas.Bool.Decides.{nat_tests}
use Rattle.std.proofs.lemmas.List.{append-nil, take_at, drop_at, length-append}
use Rattle.std.proofs.lemmas.List.Recursion.{is_position_or_len}
use Rattle.clap.specs.Lexer.{long_of, short_of, name_and_value, has_byte}
use Rattle.plane.specs.Spelling.{natural_text}
use Rattle.command_words.proofs.GivenLemmas.{natural_first}

-- ---- names and values, cut at the first `=`
abbrev is_equals : ℕ → Bool
is_equals byte = byte == 61

-- the place of the first `=`, or the length
abbrev place : List ℕ → ℕ
place [] = 0
place (byte ∷ bytes) = cond (is_equals byte) 0 (1 + place bytes)

no_equals : (byte : ℕ) → ¬ (byte ≡ 61) → is_equals byte ≡ false
no_equals byte other = grind (arith, nat_tests)

place_behind : (name rest : List ℕ) → AllByRecursion (λ byte. ¬ (byte ≡ 61)) name → place (name ++ rest) ≡ length name + place rest
place_behind [] rest all = omega arith
place_behind (byte ∷ bytes) rest all =
    let more = place_behind bytes rest all.1 in
    ap (λ b. cond b 0 (1 + place (bytes ++ rest))) (no_equals byte all.0) ∙ omega (arith, more)

place_is : (name rest : List ℕ) → AllByRecursion (λ byte. ¬ (byte ≡ 61)) name → place rest ≡ 0 → position_or_len is_equals (name ++ rest) ≡ length name
place_is name rest all first = sym (is_position_or_len place is_equals refl (λ _ _. refl) (name ++ rest)) ∙ place_behind name rest all ∙ omega (arith, first)

lacks : (name : List ℕ) → AllByRecursion (λ byte. ¬ (byte ≡ 61)) name → has_byte 61 name ≡ false
lacks [] all = refl
lacks (byte ∷ bytes) all = ap₂ (λ (a b : Bool). a || b) (no_equals byte all.0) (lacks bytes all.1)

has : (name value : List ℕ) → has_byte 61 (name ++ 61 ∷ value) ≡ true
has [] value = refl
has (byte ∷ bytes) value = ap (λ b. is_equals byte || b) (has bytes value) ∙ or_true (is_equals byte)
  where
    or_true : (b : Bool) → (b || true) ≡ true
    or_true true = refl
    or_true false = refl

name_alone : (name : List ℕ) → AllByRecursion (λ byte. ¬ (byte ≡ 61)) name → name_and_value name ≡ (name, None)
name_alone name all =
    let whole : position_or_len is_equals name ≡ length name = ap (position_or_len is_equals) (sym (append-nil name)) ∙ place_is name [] all refl in
    let front : before_first is_equals name ≡ name = ap (λ n. take n name) whole ∙ ap (take (length name)) (sym (append-nil name)) ∙ take_at name [] (length name) refl in
    ap₂ (λ (n : List ℕ) (b : Bool). (n, cond b (Some (after_first is_equals name)) None)) front (lacks name all)

name_valued : (name value : List ℕ) → AllByRecursion (λ byte. ¬ (byte ≡ 61)) name → name_and_value (name ++ 61 ∷ value) ≡ (name, Some value)
name_valued name value all =
    let whole = name ++ 61 ∷ value in
    let at : position_or_len is_equals whole ≡ length name = place_is name (61 ∷ value) all refl in
    let front : before_first is_equals whole ≡ name = ap (λ n. take n whole) at ∙ take_at name (61 ∷ value) (length name) refl in
    let cut : whole ≡ (name ++ 61 ∷ []) ++ value = sym (append_assoc name (61 ∷ []) value) in
    let count : length (name ++ 61 ∷ []) ≡ length name + 1 = length-append name (61 ∷ []) in
    let back : after_first is_equals whole ≡ value = ap (λ n. drop (n + 1) whole) at ∙ ap (drop (length name + 1)) cut ∙ drop_at (name ++ 61 ∷ []) value (length name + 1) count in
    (λ i. (front i, cond (has name value i) (Some (back i)) None))

-- ---- the word of an option
pub long_alone : (byte : ℕ) (bytes : List ℕ) → AllByRecursion (λ byte. ¬ (byte ≡ 61)) (byte ∷ bytes) → long_of (45 ∷ 45 ∷ byte ∷ bytes) ≡ Some (byte ∷ bytes, None)
long_alone byte bytes all = ap (λ p. Some p) (name_alone (byte ∷ bytes) all)

pub long_valued : (byte : ℕ) (bytes value : List ℕ) → AllByRecursion (λ byte. ¬ (byte ≡ 61)) (byte ∷ bytes) → long_of (45 ∷ 45 ∷ byte ∷ (bytes ++ 61 ∷ value)) ≡ Some (byte ∷ bytes, Some value)
long_valued byte bytes value all = ap (λ p. Some p) (name_valued (byte ∷ bytes) value all)

-- ---- a word that doesn't begin with a hyphen
pub no_long : (byte : ℕ) (bytes : List ℕ) → (byte == 45) ≡ false → long_of (byte ∷ bytes) ≡ None
no_long byte bytes other = rw other refl

pub no_short : (byte : ℕ) (bytes : List ℕ) → (byte == 45) ≡ false → short_of (byte ∷ bytes) ≡ None
no_short byte bytes other = rw other refl

pub no_escape : (byte : ℕ) (bytes : List ℕ) → (byte == 45) ≡ false → bytes_eq (byte ∷ bytes) (45 ∷ 45 ∷ []) ≡ false
no_escape byte bytes other = rw other refl

-- a number is one
pub number_word : (n : ℕ) → (byte : ℕ) × (bytes : List ℕ) × (natural_text n ≡ byte ∷ bytes) × ((byte == 45) ≡ false)
number_word n =
    let (byte, bytes, is, high) = natural_first n in
    (byte, bytes, is, other byte high)
  where
    other : (byte : ℕ) → 48 ≤ byte → (byte == 45) ≡ false
    other byte high = grind (arith, nat_tests)
