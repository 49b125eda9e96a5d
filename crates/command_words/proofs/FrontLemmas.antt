-- What the words at the front of a list give.
use Rattle.std.proofs.Common.{◌≡◌, ℕ, zero, suc, ◌+◌, ◌<◌, ◌≤◌, List, [], ◌∷◌, ◌++◌, map, length, drop, get_or, codes, Option, Some, None, MatchOption, refl, ap, sym, ◌∙◌, subst, inl, inr, arith, append_assoc}
use Rattle.std.proofs.lemmas.List.{append_cancel_left, append-nil, drop_at, length-append, drop_more}
use Rattle.plane.specs.Spelling.{natural_text}
use Rattle.command_words.specs.declared.rows.NumberBounds.{NumberBounds}
use Rattle.command_words.specs.declared.rows.OptionRow.{OptionRow as TableRow}
use Rattle.command_words.specs.Lines.{OptionRow, Value, nothing, apart, joined, Given, words_with, given_words, IsGivenAs, IsGivenOf}
use Rattle.command_words.specs.Rows.{option_of}
use Rattle.command_words.specs.Fronts.{IsWithin, FollowsBy, GivesValue, GivesNoValue, GivesFirst, GivesNone}

-- ---- the value of an option
pub apart_value : (numbers : NumberBounds) (word : List ℕ) (others rest : List (List ℕ)) → IsWithin numbers word → others ≡ word ∷ rest → GivesValue (Some numbers) [] others 2
apart_value numbers word others rest within e = (apart within.0, rest, (within.2, within.3), (refl, e ∙ ap (λ w. w ∷ rest) within.1), omega (arith, ap length e))

pub joined_value : (numbers : NumberBounds) (tail : List ℕ) (others : List (List ℕ)) (r : Option ℕ) → ¬ (tail ≡ [])
    → MatchOption r ((word : List ℕ) → IsWithin numbers word → ¬ (tail ≡ codes "=" ++ word)) (λ n. (word : List ℕ) × IsWithin numbers word × (tail ≡ codes "=" ++ word) × (n ≡ 1))
    → MatchOption r (GivesNoValue (Some numbers) tail others) (GivesValue (Some numbers) tail others)
joined_value numbers tail others None some none = at
  where
    at : GivesNoValue (Some numbers) tail others
    at nothing rest takes follows = takes
    at (apart n) rest takes follows = some follows.0
    at (joined n) rest takes follows = none (natural_text n) (n, refl, takes.0, takes.1) follows.0
joined_value numbers tail others (Some n) some (word, within, e, one) =
    (joined within.0, others, (within.2, within.3), (e ∙ ap (λ w. codes "=" ++ w) within.1, refl), ap (λ k. k + length others) one)

-- ---- an option
-- behind the name of an option there are only the words of a value
follows : (name tail : List ℕ) (others rest : List (List ℕ)) (value : Value)
    → (codes "--" ++ (name ++ tail)) ∷ others ≡ words_with name value ++ rest → FollowsBy tail others value rest
follows name tail others rest nothing e =
    let head : codes "--" ++ (name ++ tail) ≡ codes "--" ++ (name ++ []) = cc (append-nil name) in
    (append_cancel_left name tail [] (append_cancel_left (codes "--") (name ++ tail) (name ++ []) head), cc)
follows name tail others rest (apart n) e =
    let head : codes "--" ++ (name ++ tail) ≡ codes "--" ++ (name ++ []) = cc (append-nil name) in
    (append_cancel_left name tail [] (append_cancel_left (codes "--") (name ++ tail) (name ++ []) head), cc)
follows name tail others rest (joined n) e =
    let head : codes "--" ++ (name ++ tail) ≡ codes "--" ++ (name ++ (codes "=" ++ natural_text n)) = cc (append_assoc name (codes "=") (natural_text n)) in
    (append_cancel_left name tail (codes "=" ++ natural_text n) (append_cancel_left (codes "--") (name ++ tail) (name ++ (codes "=" ++ natural_text n)) head), cc)

-- and where a value stands, its words do
spelled : (name tail : List ℕ) (others rest : List (List ℕ)) (value : Value)
    → FollowsBy tail others value rest → (codes "--" ++ (name ++ tail)) ∷ others ≡ words_with name value ++ rest
spelled name tail others rest nothing h = cc (append-nil name)
spelled name tail others rest (apart n) h = cc (append-nil name)
spelled name tail others rest (joined n) h = cc (append_assoc name (codes "=") (natural_text n))

rest_behind : (name : List ℕ) (value : Value) (rest words : List (List ℕ)) → words ≡ words_with name value ++ rest → drop (length (words_with name value)) words ≡ rest
rest_behind name value rest words e = ap (drop (length (words_with name value))) e ∙ drop_at (words_with name value) rest (length (words_with name value)) refl

module _ (option : OptionRow) (first tail : List ℕ) (others words : List (List ℕ)) (front : words ≡ first ∷ others) where
  -- where the first word has another name, the option isn't given
  pub other_name : ((tail : List ℕ) → ¬ (first ≡ codes "--" ++ (option.name ++ tail))) → GivesNone (IsGivenAs option) words
  other_name unnamed given rest h e = at given.value (sym front ∙ e ∙ ap (λ name. words_with name given.value ++ rest) h.0)
    where
      at : (value : Value) → first ∷ others ≡ words_with option.name value ++ rest → ⊥
      at nothing e = unnamed [] (cc (append-nil option.name))
      at (apart n) e = unnamed [] (cc (append-nil option.name))
      at (joined n) e = unnamed (codes "=" ++ natural_text n) (cc (append_assoc option.name (codes "=") (natural_text n)))

  -- where it has this name, the option is given where a value that it takes stands there
  pub this_name : (r : Option ℕ) → first ≡ codes "--" ++ (option.name ++ tail)
      → MatchOption r (GivesNoValue option.numbers tail others) (GivesValue option.numbers tail others)
      → MatchOption r (GivesNone (IsGivenAs option) words) (GivesFirst (IsGivenAs option) words)
  this_name None named none = λ given rest h e.
      none given.value rest h.1 (follows option.name tail others rest given.value
      (ap (λ w. w ∷ others) (sym named) ∙ sym front ∙ e ∙ ap (λ name. words_with name given.value ++ rest) h.0))
  this_name (Some n) named (value, rest, takes, behind, count) =
      let whole : words ≡ words_with option.name value ++ rest = front ∙ ap (λ w. w ∷ others) named ∙ spelled option.name tail others rest value behind in
      let counted : length words ≡ length (words_with option.name value) + length rest = ap length whole ∙ length-append (words_with option.name value) rest in
      let counts : length words ≡ suc (length others) = ap length front in
      let same : n ≡ length (words_with option.name value) = omega (arith, counted, counts, count) in (
        record { name = option.name; value = value },
        (refl, takes),
        whole ∙ ap (λ r. words_with option.name value ++ r) (sym (ap (λ k. drop k words) same ∙ rest_behind option.name value rest words whole)),
        same,
      )

-- ---- one of some options
pub given_of : (options : List TableRow) (i : ℕ) (d : TableRow) (given : Given) → i < length options → IsGivenAs (option_of (get_or options i d)) given → IsGivenOf (map option_of options) given
given_of [] i d given less h = absurd (omega arith)
given_of (option ∷ options) zero d given less h = inl h
given_of (option ∷ options) (suc i) d given less h = inr (given_of options i d given (omega arith) h)

-- what is given at the front is one of the options that weren't looked at
abbrev pub IsLeft : List TableRow → List (List ℕ) → ℕ → Type 0
IsLeft options words i =
    (given : Given) (rest : List (List ℕ)) → IsGivenOf (map option_of options) given → words ≡ given_words given ++ rest → IsGivenOf (map option_of (drop i options)) given

module _ (options : List TableRow) (words : List (List ℕ)) (i : ℕ) (d : TableRow) (less : i < length options) where
  pub one_less : IsLeft options words i → GivesNone (IsGivenAs (option_of (get_or options i d))) words → IsLeft options words (i + 1)
  one_less left none given rest h e =
      elim (subst (λ os. IsGivenOf (map option_of os) given) (drop_more options i d less) (left given rest h e)) [
        | inl k ↦ absurd (none given rest k e)
        | inr k ↦ k
      ]

  pub one_found : (n : ℕ) → GivesFirst (IsGivenAs (option_of (get_or options i d))) words n
      → GivesFirst (λ given. IsGivenOf (map option_of options) given × (given.name ≡ (get_or options i d).name.now)) words n
  one_found n (given, h, e, count) = (given, (given_of options i d given less h, h.0), e, count)

pub none_left : (options : List TableRow) (words : List (List ℕ)) (i : ℕ) → length options ≤ i → IsLeft options words i → GivesNone (IsGivenOf (map option_of options)) words
none_left options words i past left given rest h e = subst (λ os. IsGivenOf (map option_of os) given) (nothing_left options i past) (left given rest h e)
  where
    nothing_left : (options : List TableRow) (i : ℕ) → length options ≤ i → drop i options ≡ []
    nothing_left [] zero past = refl
    nothing_left [] (suc i) past = refl
    nothing_left (option ∷ options) zero past = absurd (omega arith)
    nothing_left (option ∷ options) (suc i) past = nothing_left options i (omega arith)
