-- Words at the front of a list give at most one option.
use Rattle.std.proofs.Common.{◌≡◌, ◌↔◌, ℕ, ◌+◌, ◌<◌, ◌≤◌, Bool, false, true≢false, cond, IsTrue, MatchOption, is_some, Bor, List, [], ◌∷◌, ◌++◌, map, length, codes, Option, Some, None, refl, ap, sym, ◌∙◌, subst, inl, inr, arith, append_assoc}
use Rattle.std.specs.Prelude.{◌==◌}
use Rattle.std.specs.List.{flat_map, AllByRecursion}
use Rattle.std.specs.Char.{digit_value}
use Rattle.std.specs.Str.Parse.{AllDigits}
use Rattle.std.proofs.lemmas.Bool.Decides.{nat_tests}
use Rattle.std.proofs.lemmas.List.{append_cancel_left, append-nil}
use Rattle.plane.specs.Spelling.{natural_text}
use Rattle.plane.proofs.CallerLemmas.{natural_text_injective, natural_text_digits, natural_text_some, glyph_of_value}
use Rattle.command_words.specs.declared.rows.NumberBounds.{NumberBounds}
use Rattle.command_words.specs.Lines.{OptionRow, CommandRow, Value, nothing, apart, joined, Given, words_with, given_words, Takes, IsGivenOf, AreDistinct, names_of}
use Rattle.command_words.specs.Fronts.{IsName, IsRow, EndsName, NamesOption, IsNamed}

-- ---- the first byte of a number is a digit
first_digit : (text : List ℕ) → AllDigits 10 text → 0 < length text → (byte : ℕ) × (bytes : List ℕ) × (text ≡ byte ∷ bytes) × (48 ≤ byte)
first_digit [] digits some = absurd (omega arith)
first_digit (byte ∷ bytes) digits some =
    let same : 48 + digit_value byte ≡ byte = glyph_of_value byte digits.0 in
    (byte, bytes, refl, omega arith)

pub natural_first : (n : ℕ) → (byte : ℕ) × (bytes : List ℕ) × (natural_text n ≡ byte ∷ bytes) × (48 ≤ byte)
natural_first n = first_digit (natural_text n) (natural_text_digits n) (natural_text_some n)

-- so no number begins with a hyphen
pub no_hyphen : (n : ℕ) (bytes : List ℕ) → natural_text n ≡ 45 ∷ bytes → ⊥
no_hyphen n bytes e =
    let (byte, others, is, high) = natural_first n in
    let same : 45 ≡ byte = cc in
    omega (arith, same, high)

-- ---- the name of an option in its word
-- what stands before the first `=`
abbrev stem : List ℕ → List ℕ
stem [] = []
stem (byte ∷ bytes) = cond (byte == 61) [] (byte ∷ stem bytes)

stem_ends : (tail : List ℕ) → EndsName tail → stem tail ≡ []
stem_ends tail (inl e) = ap stem e
stem_ends tail (inr (rest, e)) = ap stem e

not_equals : (byte : ℕ) → ¬ (byte ≡ 61) → (byte == 61) ≡ false
not_equals byte other = grind (arith, nat_tests)

stem_name : (name tail : List ℕ) → AllByRecursion (λ byte. ¬ (byte ≡ 61)) name → EndsName tail → stem (name ++ tail) ≡ name
stem_name [] tail all ends = stem_ends tail ends
stem_name (byte ∷ bytes) tail all ends = rw (not_equals byte all.0) (ap (λ bs. byte ∷ bs) (stem_name bytes tail all.1 ends))

pub same_name : (name other tail end : List ℕ) → IsName name → IsName other → EndsName tail → EndsName end → codes "--" ++ (name ++ tail) ≡ codes "--" ++ (other ++ end) → name ≡ other
same_name name other tail end is also ends closes e =
    sym (stem_name name tail is.1 ends) ∙ ap stem (append_cancel_left (codes "--") (name ++ tail) (other ++ end) e) ∙ stem_name other end also.1 closes

-- how a name's end is found
pub name_ended : (tail : List ℕ) (r : Option (Bor (List ℕ))) → ¬ (tail ≡ []) → MatchOption r ((rest : List ℕ) → ¬ (tail ≡ codes "=" ++ rest)) (λ rest. tail ≡ codes "=" ++ rest.now)
    → IsTrue (is_some r) ↔ EndsName tail
name_ended tail None some none = (λ t. absurd (true≢false (sym t)), at)
  where
    at : EndsName tail → IsTrue (is_some {T = Bor (List ℕ)} None)
    at (inl e) = absurd (some e)
    at (inr (rest, e)) = absurd (none rest e)
name_ended tail (Some rest) some e = (λ _. inr (rest.now, e), λ _. refl)

-- and then that the word names the option
pub named_by : (name word tail : List ℕ) (b : Bool) → word ≡ codes "--" ++ (name ++ tail) → IsTrue b ↔ EndsName tail → IsTrue b ↔ NamesOption name word
named_by name word tail b e ends = (
  λ t. (tail, e, ends.0 t),
  λ (other, also, closes). ends.1 (subst EndsName (sym (append_cancel_left name tail other (append_cancel_left (codes "--") (name ++ tail) (name ++ other) (sym e ∙ also)))) closes),
)

-- ---- the words of an option: its first word, and those behind it
abbrev pub tail_text : Value → List ℕ
tail_text nothing = []
tail_text (apart n) = []
tail_text (joined n) = codes "=" ++ natural_text n

abbrev pub more_words : Value → List (List ℕ)
more_words nothing = []
more_words (apart n) = natural_text n ∷ []
more_words (joined n) = []

pub opened : (name : List ℕ) (value : Value) → words_with name value ≡ (codes "--" ++ (name ++ tail_text value)) ∷ more_words value
opened name nothing = cc (append-nil name)
opened name (apart n) = cc (append-nil name)
opened name (joined n) = cc (append_assoc name (codes "=") (natural_text n))

pub tail_ends : (value : Value) → EndsName (tail_text value)
tail_ends nothing = inl refl
tail_ends (apart n) = inl refl
tail_ends (joined n) = inr (natural_text n, refl)

-- two values of an option that have the same words are the same
same_value : (numbers : Option NumberBounds) (value other : Value) (rest end : List (List ℕ)) → Takes numbers value → Takes numbers other
    → tail_text value ≡ tail_text other → more_words value ++ rest ≡ more_words other ++ end → (value ≡ other) × (rest ≡ end)
same_value None nothing nothing rest end takes also tails more = (refl, more)
same_value None nothing (apart n) rest end takes also tails more = absurd also
same_value None nothing (joined n) rest end takes also tails more = absurd also
same_value None (apart n) other rest end takes also tails more = absurd takes
same_value None (joined n) other rest end takes also tails more = absurd takes
same_value (Some numbers) nothing other rest end takes also tails more = absurd takes
same_value (Some numbers) (apart n) nothing rest end takes also tails more = absurd also
same_value (Some numbers) (apart n) (apart m) rest end takes also tails more = let same : natural_text n ≡ natural_text m = cc in (ap apart (natural_text_injective n m same), cc)
same_value (Some numbers) (apart n) (joined m) rest end takes also tails more = absurd (cc)
same_value (Some numbers) (joined n) nothing rest end takes also tails more = absurd also
same_value (Some numbers) (joined n) (apart m) rest end takes also tails more = absurd (cc)
same_value (Some numbers) (joined n) (joined m) rest end takes also tails more = let same : natural_text n ≡ natural_text m = cc in (ap joined (natural_text_injective n m same), more)

-- ---- one of the options of a row
pub is_name : (options : List OptionRow) (given : Given) → AllByRecursion (λ option. IsName option.name) options → IsGivenOf options given → IsName given.name
is_name [] given names h = absurd h
is_name (option ∷ options) given names (inl h) = subst IsName (sym h.0) names.0
is_name (option ∷ options) given names (inr h) = is_name options given names.1 h

no_other : (options : List OptionRow) (given : Given) (name : List ℕ) → AllByRecursion (λ other. ¬ (other ≡ name)) (map (λ option. option.name) options)
    → IsGivenOf options given → ¬ (given.name ≡ name)
no_other [] given name others h e = h
no_other (option ∷ options) given name others (inl h) e = others.0 (sym h.0 ∙ e)
no_other (option ∷ options) given name others (inr h) e = no_other options given name others.1 h e

one_option : (options : List OptionRow) (given other : Given) → AreDistinct (map (λ option. option.name) options) → IsGivenOf options given → IsGivenOf options other → given.name ≡ other.name
    → (numbers : Option NumberBounds) × Takes numbers given.value × Takes numbers other.value
one_option [] given other distinct h k e = absurd h
one_option (option ∷ options) given other distinct (inl h) (inl k) e = (option.numbers, h.1, k.1)
one_option (option ∷ options) given other distinct (inl h) (inr k) e = absurd (no_other options other option.name distinct.0 k (sym e ∙ h.0))
one_option (option ∷ options) given other distinct (inr h) (inl k) e = absurd (no_other options given option.name distinct.0 h (e ∙ k.0))
one_option (option ∷ options) given other distinct (inr h) (inr k) e = one_option options given other distinct.1 h k e

-- the words at the front of a list give one option of a row at most
pub one_given : (row : CommandRow) (given other : Given) (rest end : List (List ℕ)) → IsRow row → IsGivenOf row.options given → IsGivenOf row.options other
    → given_words given ++ rest ≡ given_words other ++ end → (given ≡ other) × (rest ≡ end)
one_given row given other rest end is h k e =
    let whole : (codes "--" ++ (given.name ++ tail_text given.value)) ∷ (more_words given.value ++ rest) ≡ (codes "--" ++ (other.name ++ tail_text other.value)) ∷ (more_words other.value ++ end) =
    sym (ap (λ words. words ++ rest) (opened given.name given.value)) ∙ e ∙ ap (λ words. words ++ end) (opened other.name other.value) in
    let named : given.name ≡ other.name =
    same_name given.name other.name (tail_text given.value) (tail_text other.value) (is_name row.options given is.0 h) (is_name row.options other is.0 k) (tail_ends given.value) (tail_ends other.value) cc in
    let option = one_option row.options given other is.1 h k named in
    let tails : tail_text given.value ≡ tail_text other.value =
    append_cancel_left other.name (tail_text given.value) (tail_text other.value)
    (append_cancel_left (codes "--") (other.name ++ tail_text given.value) (other.name ++ tail_text other.value) (rw (← named) cc)) in
    let same = same_value option.0 given.value other.value rest end option.1 option.2 tails cc in
    (λ i. record { name = named i; value = same.0 i }, same.1)

-- ---- the names of the options that words give
module _ (row : CommandRow) (name : List ℕ) (is : IsName name) where
  -- a word of an option names that option alone
  names_one : (given : Given) (rest : List (List ℕ)) → IsName given.name → IsNamed name (given_words given ++ rest) → ¬ (name ≡ given.name) → IsNamed name rest
  names_one given rest also h other = after_value given.value (subst (λ words. IsNamed name (words ++ rest)) (opened given.name given.value) h)
    where
      behind : (value : Value) → IsNamed name (more_words value ++ rest) → IsNamed name rest
      behind nothing h = h
      behind (apart n) (inl (tail, e, ends)) = absurd (no_hyphen n (45 ∷ (name ++ tail)) e)
      behind (apart n) (inr h) = h
      behind (joined n) h = h

      after_value : (value : Value) → IsNamed name ((codes "--" ++ (given.name ++ tail_text value)) ∷ (more_words value ++ rest)) → IsNamed name rest
      after_value value (inl (tail, e, ends)) = absurd (other (same_name name given.name tail (tail_text value) is also ends (tail_ends value) (sym e)))
      after_value value (inr h) = behind value h

  pub named_among : (options : List Given) → AllByRecursion (IsGivenOf row.options) options → AllByRecursion (λ option. IsName option.name) row.options
      → IsNamed name (flat_map given_words options) → ¬ (AllByRecursion (λ other. ¬ (name ≡ other)) (names_of options))
  named_among [] given names h others = h
  named_among (option ∷ options) given names h others =
      named_among options given.1 names (names_one option (flat_map given_words options) (is_name row.options option names given.0) h others.0) others.1

  -- and it names it
  names_this : (given : Given) (rest : List (List ℕ)) → name ≡ given.name → IsNamed name (given_words given ++ rest)
  names_this given rest e =
      subst (λ words. IsNamed name (words ++ rest)) (sym (opened given.name given.value))
      (inl (tail_text given.value, ap (λ n. codes "--" ++ (n ++ tail_text given.value)) (sym e), tail_ends given.value))

  named_behind : (words rest : List (List ℕ)) → IsNamed name rest → IsNamed name (words ++ rest)
  named_behind [] rest h = h
  named_behind (word ∷ words) rest h = inr (named_behind words rest h)

  pub not_among : (options : List Given) → ¬ (IsNamed name (flat_map given_words options)) → AllByRecursion (λ other. ¬ (name ≡ other)) (names_of options)
  not_among [] h = tt
  not_among (option ∷ options) h = (
    λ e. h (names_this option (flat_map given_words options) e),
    not_among options (λ k. h (named_behind (given_words option) (flat_map given_words options) k)),
  )
