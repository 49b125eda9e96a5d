-- The number of an option, from the matches of a line to the line.
use Rattle.std.proofs.Common.{◌≡◌, ◌∙◌, ℕ, zero, suc, ◌+◌, ◌++◌, length, take, get_or, ◌^◌, ◌<◌, ◌≤◌, Bool, true, false, cond, Bor, List, [], ◌∷◌, map, codes, Option, Some, None, IsSome, MatchOption, option_map, refl, ap, ap₂, sym, subst, arith}
use Rattle.std.specs.Prelude.{IfSome, IsSomeAnd, IsNone, option_and_then, slice_get}
use Rattle.std.specs.Bool.{MatchBool}
use Rattle.std.specs.List.{AllByRecursion}
use Rattle.std.specs.Str.{bytes_eq}
use Rattle.std.proofs.lemmas.List.{take_more, map-append}
use Rattle.std.proofs.lemmas.Slice.Eq.{bytes_eq-Decides}
use Rattle.clap.specs.Matches.{first_value, one_text, matched_of, raw_values}
use Rattle.clap.specs.declared.parser.matches.MatchedArg.{MatchedArg}
use Rattle.clap.specs.declared.parser.matches.Found.{Found}
use Rattle.plane.specs.Spelling.{natural_text}
use Rattle.plane.proofs.CallerLemmas.{natural_text_injective}
use Rattle.command_words.specs.declared.rows.NumberBounds.{NumberBounds}
use Rattle.command_words.specs.Lines.{OptionRow, CommandRow, Value, nothing, apart, joined, Given, Takes, IsGivenOf, AreDistinct, number_with, number_given, is_given}
use Rattle.command_words.specs.Parsers.{values_id, IsOption, HoldsPlain, HoldsLine, values_text}
use Rattle.command_words.specs.Commands.{IsNumberOf}
use Rattle.command_words.proofs.FoundLemmas.{takes_of}

-- a number that an option takes lies within its bounds
taken_number : (numbers : NumberBounds) (value : Value) (n : ℕ) → Takes (Some numbers) value → number_with value ≡ Some n → (numbers.least ≤ n) × (n ≤ numbers.most)
taken_number numbers nothing n takes e = absurd takes
taken_number numbers (apart m) n takes e = let same : m ≡ n = cc in (omega (arith, same, takes.0), omega (arith, same, takes.1))
taken_number numbers (joined m) n takes e = let same : m ≡ n = cc in (omega (arith, same, takes.0), omega (arith, same, takes.1))

module _ (row : CommandRow) (distinct : AreDistinct (map (λ o. o.name) row.options)) (one : OptionRow) (among : IsOption row.options one) (numbers : NumberBounds) (is_number : one.numbers ≡ Some numbers) where
  given_number : (options : List Given) → AllByRecursion (IsGivenOf row.options) options → (n : ℕ) → number_given one.name options ≡ Some n → (numbers.least ≤ n) × (n ≤ numbers.most)
  given_number [] given n e = absurd (cc)
  given_number (g ∷ options) given n e = at (bytes_eq g.name one.name) refl e (given_number options given.1 n)
    where
      at : (b : Bool) → bytes_eq g.name one.name ≡ b → cond (bytes_eq g.name one.name) (number_with g.value) (number_given one.name options) ≡ Some n
          → (number_given one.name options ≡ Some n → (numbers.least ≤ n) × (n ≤ numbers.most)) → (numbers.least ≤ n) × (n ≤ numbers.most)
      at true same e later = taken_number numbers g.value n (subst (λ o. Takes o g.value) is_number (takes_of row.options one g distinct among given.0 ((bytes_eq-Decides g.name one.name).0 same))) (rw same at e)
      at false same e later = later (rw same at e)

  -- the number of an option lies within its bounds, given or not
  pub number_within : (options : List Given) → AllByRecursion (IsGivenOf row.options) options → numbers.least ≤ numbers.unless_given → numbers.unless_given ≤ numbers.most → (n : ℕ) → IsNumberOf one options n
      → (numbers.least ≤ n) × (n ≤ numbers.most)
  number_within options given least most n is =
      at (number_given one.name options) one.numbers is_number (given_number options given) is
    where
      at : (o : Option ℕ) (own : Option NumberBounds) → own ≡ Some numbers → ((m : ℕ) → o ≡ Some m → (numbers.least ≤ m) × (m ≤ numbers.most))
          → MatchOption o (IsSomeAnd own (λ numbers. n ≡ numbers.unless_given)) (λ m. n ≡ m) → (numbers.least ≤ n) × (n ≤ numbers.most)
      at (Some m) own e within h = let both = within m refl in (omega (arith, both.0, h), omega (arith, both.1, h))
      at None (Some own) e within h =
          let same : own.unless_given ≡ numbers.unless_given = ap (λ (o : Option NumberBounds). unless o) e in
          (omega (arith, least, same, h), omega (arith, most, same, h))
        where
          unless : Option NumberBounds → ℕ
          unless None = 0
          unless (Some numbers) = numbers.unless_given
      at None None e within h = absurd h

  module _ (options : List Given) (plain : List ℕ) (found : Found) (holds : HoldsLine row options plain found) where
    held : first_value found one.name ≡ option_map natural_text (number_given one.name options)
    held = holds.numbers one among (subst IsSome (sym is_number) refl)

    -- the text of an option with a number is a number of 32 bits
    pub number_held : AllByRecursion (IsGivenOf row.options) options → numbers.most < 2 ^ 32 → IfSome (first_value found one.name) (λ text. (n : ℕ) × (text ≡ natural_text n) × (n < 2 ^ 32))
    number_held given small = subst (λ o. IfSome o (λ text. (n : ℕ) × (text ≡ natural_text n) × (n < 2 ^ 32))) (sym held) (at (number_given one.name options) (given_number options given))
      where
        at : (o : Option ℕ) → ((n : ℕ) → o ≡ Some n → (numbers.least ≤ n) × (n ≤ numbers.most)) → IfSome (option_map natural_text o) (λ text. (n : ℕ) × (text ≡ natural_text n) × (n < 2 ^ 32))
        at None within = tt
        at (Some n) within = let both = within n refl in (n, refl, omega (arith, both.1, small))

    -- and what is read of it is the number of the option
    pub number_read : (r : ℕ) → MatchOption (first_value found one.name) (IsSomeAnd one.numbers (λ numbers. r ≡ numbers.unless_given)) (λ text. text ≡ natural_text r) → IsNumberOf one options r
    number_read r h = at (number_given one.name options) (subst (λ o. MatchOption o (IsSomeAnd one.numbers (λ numbers. r ≡ numbers.unless_given)) (λ text. text ≡ natural_text r)) held h)
      where
        at : (o : Option ℕ) → MatchOption (option_map natural_text o) (IsSomeAnd one.numbers (λ numbers. r ≡ numbers.unless_given)) (λ text. text ≡ natural_text r)
            → MatchOption o (IsSomeAnd one.numbers (λ numbers. r ≡ numbers.unless_given)) (λ given. r ≡ given)
        at None h = h
        at (Some n) h = natural_text_injective r n (sym h)

-- values below a bound of 32 bits have 32 bits
pub small_values : (bound : ℕ) (plain : List ℕ) → bound < 2 ^ 32 → AllByRecursion (λ n. n < bound) plain → AllByRecursion (λ n. n < 2 ^ 32) plain
small_values bound [] small below = tt
small_values bound (n ∷ plain) small below = (omega (arith, small, below.0), small_values bound plain small below.1)

-- words spell one list of numbers
pub same_values : (one other : List ℕ) → map natural_text one ≡ map natural_text other → one ≡ other
same_values [] [] e = refl
same_values [] (m ∷ other) e = absurd (cc)
same_values (n ∷ one) [] e = absurd (cc)
same_values (n ∷ one) (m ∷ other) e =
    let head : natural_text n ≡ natural_text m = cc in
    let tail : map natural_text one ≡ map natural_text other = cc in
    ap₂ (λ (k : ℕ) (ks : List ℕ). k ∷ ks) (natural_text_injective n m head) (same_values one other tail)

-- the matches hold one list of plain values
one_text_list : (one other : List ℕ) → values_text one ≡ values_text other → one ≡ other
one_text_list [] [] e = refl
one_text_list [] (m ∷ other) e = absurd (cc)
one_text_list (n ∷ one) [] e = absurd (cc)
one_text_list (n ∷ one) (m ∷ other) e = same_values (n ∷ one) (m ∷ other) (ap (λ o. or_else o) e)
  where
    or_else : Option (List (List ℕ)) → List (List ℕ)
    or_else None = []
    or_else (Some texts) = texts

pub same_plain : (one other : List ℕ) (raw : Option (List (List ℕ))) → raw ≡ values_text one → raw ≡ values_text other → one ≡ other
same_plain one other raw h k = one_text_list one other (sym h ∙ k)

-- the words of numbers are their texts, one by one
pub number_at : {X : Type 0} (f : X → List ℕ) (words : List X) (plain : List ℕ) (d : X) → map f words ≡ map natural_text plain → AllByRecursion (λ n. n < 2 ^ 32) plain
    → (i : ℕ) → i < length words → (n : ℕ) × (f (get_or words i d) ≡ natural_text n) × (n < 2 ^ 32)
number_at f [] plain d e small i under = absurd (omega (arith, under))
number_at f (w ∷ words) [] d e small i under = absurd (cc)
number_at f (w ∷ words) (n ∷ plain) d e small zero under = let head : f w ≡ natural_text n = cc in (n, head, small.0)
number_at f (w ∷ words) (n ∷ plain) d e small (suc i) under = let tail : map f words ≡ map natural_text plain = cc in number_at f words plain d tail small.1 i (omega (arith, under))

-- one number more
pub numbers_more : {X : Type 0} (f : X → List ℕ) (words : List X) (i : ℕ) (d : X) (numbers more : List ℕ) (n : ℕ) → i < length words → map f (take i words) ≡ map natural_text numbers
    → f (get_or words i d) ≡ natural_text n → more ≡ numbers ++ n ∷ [] → map f (take (i + 1) words) ≡ map natural_text more
numbers_more f words i d numbers more n under before here is =
    ap (map f) (take_more words i d under) ∙ map-append f (take i words) (get_or words i d ∷ [])
    ∙ ap₂ (λ (xs ys : List (List ℕ)). xs ++ ys) before (ap (λ text. text ∷ []) here) ∙ sym (map-append natural_text numbers (n ∷ [])) ∙ ap (map natural_text) (sym is)

-- ---- flags
-- what is read of a flag says whether it is given
pub flag_read : (row : CommandRow) (one : OptionRow) → IsOption row.options one → IsNone one.numbers → (options : List Given) (plain : List ℕ) (found : Found) → HoldsLine row options plain found
    → (r : Bool) → (one_text found one.name ≡ Some (codes "true") → r ≡ true) → (IfSome (one_text found one.name) (λ text. text ≡ codes "false") → r ≡ false)
    → r ≡ is_given one.name options
flag_read row one among flag options plain found holds r set unset = at (is_given one.name options) (holds.flags one among flag)
  where
    at : (b : Bool) → MatchBool b (one_text found one.name ≡ Some (codes "true")) (IfSome (one_text found one.name) (λ text. text ≡ codes "false")) → r ≡ b
    at true h = set h
    at false h = unset h

-- ---- one plain value
-- the only value of a list
only_value : (plain : List ℕ) → 1 ≤ length plain → length plain ≤ 1 → (n : ℕ) × (plain ≡ n ∷ [])
only_value [] some few = absurd (omega arith)
only_value (n ∷ []) some few = (n, refl)
only_value (n ∷ m ∷ plain) some few = absurd (omega arith)

pub value_held : (bound : ℕ) (plain : List ℕ) → bound < 2 ^ 32 → 1 ≤ length plain → length plain ≤ 1 → AllByRecursion (λ n. n < bound) plain → (found : Found) → HoldsPlain plain found
    → (n : ℕ) × (n < 2 ^ 32) × HoldsPlain (n ∷ []) found
value_held bound plain small some few below found holds =
    let (n, e) = only_value plain some few in
    let under : AllByRecursion (λ n. n < bound) (n ∷ []) = subst (AllByRecursion (λ n. n < bound)) e below in
    (n, omega (arith, small, under.0), subst (λ (list : List ℕ). HoldsPlain list found) e holds)

pub value_read : (plain : List ℕ) → 1 ≤ length plain → length plain ≤ 1 → (found : Found) → HoldsPlain plain found
    → (r kept : ℕ) → kept ≡ r → ((n : ℕ) → HoldsPlain (n ∷ []) found → r ≡ n) → plain ≡ kept ∷ []
value_read plain some few found holds r kept same reads =
    let (n, e) = only_value plain some few in
    e ∙ ap (λ (m : ℕ). m ∷ []) (sym (reads n (subst (λ (list : List ℕ). HoldsPlain list found) e holds)) ∙ sym same)

pub value_within : (bound : ℕ) (plain : List ℕ) → 1 ≤ length plain → length plain ≤ 1 → AllByRecursion (λ n. n < bound) plain → (found : Found) → HoldsPlain plain found
    → (r : ℕ) → ((n : ℕ) → HoldsPlain (n ∷ []) found → r ≡ n) → r < bound
value_within bound plain some few below found holds r reads =
    let is : plain ≡ r ∷ [] = value_read plain some few found holds r r refl reads in
    (subst (AllByRecursion (λ n. n < bound)) is below).0

-- the first value is the one
first_is : (matched : Option MatchedArg) (n : ℕ) → option_map raw_values matched ≡ Some (natural_text n ∷ [])
    → option_and_then (λ (a : MatchedArg). option_map (λ s. s.now) (slice_get a.vals.items 0)) matched ≡ Some (natural_text n)
first_is None n e = absurd (cc)
first_is (Some a) n e = at a.vals.items (unwrapped e)
  where
    unwrapped : Some (raw_values a) ≡ Some (natural_text n ∷ []) → raw_values a ≡ natural_text n ∷ []
    unwrapped e = cc

    at : (vals : List (Bor (List ℕ))) → map (λ s. s.now) vals ≡ natural_text n ∷ [] → option_map (λ s. s.now) (slice_get vals 0) ≡ Some (natural_text n)
    at [] e = absurd (cc)
    at (v ∷ vals) e = ap Some (ap (λ (texts : List (List ℕ)). get_or texts 0 []) e)

pub first_held : (n : ℕ) (found : Found) → HoldsPlain (n ∷ []) found → first_value found values_id ≡ Some (natural_text n)
first_held n found holds = first_is (matched_of found values_id) n holds

-- texts that are there are the same, and none is no text
pub some_text : (text other : List ℕ) → Some text ≡ Some other → text ≡ other
some_text text other e = cc

pub none_text : (other : List ℕ) → ¬ (◌≡◌ {A = Option (List ℕ)} None (Some other))
none_text other e = cc
