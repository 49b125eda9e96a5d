-- What stands in the matches of a line under each id.
use Rattle.std.proofs.Common.{◌≡◌, ◌∙◌, ◌||◌, ◌⊎◌, ℕ, Bool, true, false, true≢false, cond, nat_lt, List, [], ◌∷◌, ◌++◌, map, codes, Option, Some, None, IsSome, IsNone, option_map, refl, ap, ap₂, sym, subst, inl, inr}
use Rattle.std.specs.Prelude.{option_and_then, slice_get, IfSome}
use Rattle.std.specs.Bool.{MatchBool}
use Rattle.std.specs.List.{AllByRecursion, find, fold}
use Rattle.std.specs.Option.{option_or}
use Rattle.std.specs.Str.{bytes_eq}
use Rattle.std.proofs.lemmas.Slice.Eq.{bytes_eq-Decides}
use Rattle.std.proofs.lemmas.List.Folds.{find-append}
use Rattle.std.proofs.lemmas.List.Sums.{fold-append}
use Rattle.clap.specs.Walk.{Row, all_of, default_rows, first_of, has_row, more_values, one_of, row_text, rows_of, with_default}
use Rattle.clap.specs.Matches.{one_text}
use Rattle.clap.specs.declared.parser.matches.Found.{Found}
use Rattle.clap.proofs.WalkLemmas.{first_value-rows, one_text-rows, raw_values-rows}
use Rattle.clap.specs.declared.builder.value_parser.Reading.TheVariants.{AsWritten}
use Rattle.clap.specs.declared.parser.matches.ValueSource.TheVariants.{DefaultValue}
use Rattle.plane.specs.Spelling.{natural_text}
use Rattle.command_words.specs.declared.rows.NumberBounds.{NumberBounds}
use Rattle.command_words.specs.Lines.{OptionRow, CommandRow, Value, nothing, apart, joined, Given, Takes, IsGivenOf, AreDistinct, number_given, number_with, is_given}
use Rattle.command_words.specs.Fronts.{IsName, IsRow}
use Rattle.command_words.specs.Parsers.{values_id, IsOption, HoldsLine, values_text}
use Rattle.command_words.proofs.GivenLemmas.{is_name}
use Rattle.command_words.proofs.RuleLemmas.{full_with, full_option, full_plain, full_rules, full_values, other_bytes, option_name}
use Rattle.command_words.proofs.RowLemmas.{row_with, row_given, row_values, kept_texts, at_row_end}
use Rattle.command_words.proofs.WalkLemmas.{values_rows}

-- ---- options by their names
-- the option of a name takes what is given under it
pub takes_of : (options : List OptionRow) (one : OptionRow) (given : Given) → AreDistinct (map (λ o. o.name) options) → IsOption options one → IsGivenOf options given → given.name ≡ one.name → Takes one.numbers given.value
takes_of [] one given distinct among h e = absurd h
takes_of (first ∷ options) one given distinct (inl same) (inl h) e = subst (λ (o : OptionRow). Takes o.numbers given.value) same h.1
takes_of (first ∷ options) one given distinct (inl same) (inr h) e = absurd (elsewhere options given first.name distinct.0 h (e ∙ sym (ap (λ (o : OptionRow). o.name) same)))
  where
    elsewhere : (options : List OptionRow) (given : Given) (name : List ℕ) → AllByRecursion (λ other. ¬ (other ≡ name)) (map (λ (o : OptionRow). o.name) options) → IsGivenOf options given → ¬ (given.name ≡ name)
    elsewhere [] given name others h e = h
    elsewhere (o ∷ os) given name others (inl h) e = others.0 (sym h.0 ∙ e)
    elsewhere (o ∷ os) given name others (inr h) e = elsewhere os given name others.1 h e
takes_of (first ∷ options) one given distinct (inr among) (inl h) e =
    absurd (option_name options one (subst (λ name. AllByRecursion (λ other. ¬ (other ≡ name)) (map (λ (o : OptionRow). o.name) options)) (sym h.0 ∙ e) distinct.0) among)
takes_of (first ∷ options) one given distinct (inr among) (inr h) e = takes_of options one given distinct.1 among h e

-- no flag has the name of an option with a number
abbrev NoFlag : List ℕ → List OptionRow → Type 0
NoFlag key = AllByRecursion (λ o. IsNone o.numbers → ¬ (o.name ≡ key))

no_flag : (options : List OptionRow) (one : OptionRow) → AreDistinct (map (λ o. o.name) options) → IsOption options one → IsSome one.numbers → NoFlag one.name options
no_flag [] one distinct among some = tt
no_flag (first ∷ options) one distinct (inl same) some = (
  λ none e. at first.numbers none (subst (λ (o : OptionRow). IsSome o.numbers) (sym same) some),
  others options (subst (λ name. AllByRecursion (λ other. ¬ (other ≡ name)) (map (λ (o : OptionRow). o.name) options)) (ap (λ (o : OptionRow). o.name) same) distinct.0),
)
  where
    at : (numbers : Option NumberBounds) → IsNone numbers → IsSome numbers → ⊥
    at None none some = true≢false (sym some)
    at (Some n) none some = true≢false none

    others : (os : List OptionRow) → AllByRecursion (λ other. ¬ (other ≡ one.name)) (map (λ (o : OptionRow). o.name) os) → NoFlag one.name os
    others [] all = tt
    others (o ∷ os) all = (λ _ e. all.0 e, others os all.1)
no_flag (first ∷ options) one distinct (inr among) some = (
  λ none e. option_name options one (subst (λ name. AllByRecursion (λ other. ¬ (other ≡ name)) (map (λ (o : OptionRow). o.name) options)) e distinct.0) among,
  no_flag options one distinct.1 among some,
)

no_flag_of_values : (options : List OptionRow) → AllByRecursion (λ option. IsName option.name) options → NoFlag values_id options
no_flag_of_values [] names = tt
no_flag_of_values (o ∷ options) names = (λ _ e. names.0.2 e, no_flag_of_values options names.1)

-- ---- defaults
abbrev is_id : List ℕ → Row → Bool
is_id key row = bytes_eq row.id key

-- the row of a flag that isn't given
abbrev row_unset : List ℕ → Row
row_unset name = record { id = name; values = codes "false" ∷ []; count = None; source = Some DefaultValue; reading = AsWritten }

same_both : {X : Type 0} (b : Bool) (x : X) → cond b x x ≡ x
same_both true x = refl
same_both false x = refl

-- a flag that isn't there is made at the end
unset : (name : List ℕ) (rows : List Row) → with_default rows (full_with name None) ≡ cond (has_row name rows) rows (rows ++ row_unset name ∷ [])
unset name rows = at (has_row name rows) refl
  where
    at : (b : Bool) → has_row name rows ≡ b → cond b rows (default_rows name AsWritten (codes "false" ∷ []) rows) ≡ cond b rows (rows ++ row_unset name ∷ [])
    at true e = refl
    at false e = at_row_end name (more_values DefaultValue (codes "false" ∷ [])) (row_unset name ∷ []) rows e

module _ (key : List ℕ) where
  -- a default of another id doesn't change what is found
  default_kept : (name : List ℕ) (numbers : Option NumberBounds) (rows : List Row) → (IsNone numbers → ¬ (name ≡ key)) → find (is_id key) (with_default rows (full_with name numbers)) ≡ find (is_id key) rows
  default_kept name (Some numbers) rows other = ap (find (is_id key)) (same_both (has_row name rows) rows)
  default_kept name None rows other = ap (find (is_id key)) (unset name rows) ∙ at (has_row name rows)
    where
      at : (b : Bool) → find (is_id key) (cond b rows (rows ++ row_unset name ∷ [])) ≡ find (is_id key) rows
      at true = refl
      at false = find-append (is_id key) rows (row_unset name ∷ []) ∙ ap (λ b. option_or (find (is_id key) rows) (cond b (Some (row_unset name)) None)) (other_bytes name key (other refl)) ∙ or_none (find (is_id key) rows)
        where
          or_none : (o : Option Row) → option_or o None ≡ o
          or_none None = refl
          or_none (Some row) = refl

  pub defaults_kept : (options : List OptionRow) (rows : List Row) → NoFlag key options → find (is_id key) (fold with_default rows (map full_option options)) ≡ find (is_id key) rows
  defaults_kept [] rows none = refl
  defaults_kept (o ∷ options) rows none = defaults_kept options (with_default rows (full_option o)) none.1 ∙ default_kept o.name o.numbers rows none.0

  -- a row that is there stays
  default_stays : (name : List ℕ) (numbers : Option NumberBounds) (rows : List Row) (row : Row) → find (is_id key) rows ≡ Some row → find (is_id key) (with_default rows (full_with name numbers)) ≡ Some row
  default_stays name (Some numbers) rows row e = ap (find (is_id key)) (same_both (has_row name rows) rows) ∙ e
  default_stays name None rows row e = ap (find (is_id key)) (unset name rows) ∙ at (has_row name rows)
    where
      at : (b : Bool) → find (is_id key) (cond b rows (rows ++ row_unset name ∷ [])) ≡ Some row
      at true = e
      at false = find-append (is_id key) rows (row_unset name ∷ []) ∙ ap (λ o. option_or o (find (is_id key) (row_unset name ∷ []))) e

  defaults_stay : (options : List OptionRow) (rows : List Row) (row : Row) → find (is_id key) rows ≡ Some row → find (is_id key) (fold with_default rows (map full_option options)) ≡ Some row
  defaults_stay [] rows row e = e
  defaults_stay (o ∷ options) rows row e = defaults_stay options (with_default rows (full_option o)) row (default_stays o.name o.numbers rows row e)

  -- a row that isn't there is unset, or isn't made
  abbrev IsUnset : List Row → Type 0
  IsUnset rows = (find (is_id key) rows ≡ None) ⊎ (find (is_id key) rows ≡ Some (row_unset key))

  default_unset : (name : List ℕ) (numbers : Option NumberBounds) (rows : List Row) → IsUnset rows → IsUnset (with_default rows (full_with name numbers))
  default_unset name numbers rows (inr e) = inr (default_stays name numbers rows (row_unset key) e)
  default_unset name (Some numbers) rows (inl e) = inl (default_kept name (Some numbers) rows (λ none. absurd (true≢false none)) ∙ e)
  default_unset name None rows (inl e) = subst IsUnset (sym (unset name rows)) (at (has_row name rows) (bytes_eq name key) refl)
    where
      at : (b made : Bool) → bytes_eq name key ≡ made → IsUnset (cond b rows (rows ++ row_unset name ∷ []))
      at true made m = inl e
      at false made m = found made m (find-append (is_id key) rows (row_unset name ∷ []) ∙ ap (λ o. option_or o (find (is_id key) (row_unset name ∷ []))) e)
        where
          found : (made : Bool) → bytes_eq name key ≡ made → find (is_id key) (rows ++ row_unset name ∷ []) ≡ cond (bytes_eq name key) (Some (row_unset name)) None → IsUnset (rows ++ row_unset name ∷ [])
          found true m k = inr (k ∙ ap (λ b. cond b (Some (row_unset name)) None) m ∙ ap (λ n. Some (row_unset n)) ((bytes_eq-Decides name key).0 m))
          found false m k = inl (k ∙ ap (λ b. cond b (Some (row_unset name)) None) m)

  defaults_unset : (options : List OptionRow) (rows : List Row) → IsUnset rows → IsUnset (fold with_default rows (map full_option options))
  defaults_unset [] rows h = h
  defaults_unset (o ∷ options) rows h = defaults_unset options (with_default rows (full_option o)) (default_unset o.name o.numbers rows h)

-- the plain values have no default
no_value_default : (b : Bool) (rows : List Row) → fold with_default rows (cond b (full_values ∷ []) []) ≡ rows
no_value_default true rows = same_both (has_row values_id rows) rows
no_value_default false rows = refl

all_defaults : (row : CommandRow) (rows : List Row) → fold with_default rows (full_rules row) ≡ fold with_default rows (map full_option row.options)
all_defaults row rows = fold-append with_default rows (map full_option row.options) (full_plain row.plain) ∙ no_value_default (nat_lt 0 row.plain.most) (fold with_default rows (map full_option row.options))

-- ---- what is found
module _ (row : CommandRow) (is : IsRow row) (one : OptionRow) (among : IsOption row.options one) where
  -- the text that an option with a number keeps
  kept_number : IsSome one.numbers → (value : Value) → Takes one.numbers value → slice_get (kept_texts value) 0 ≡ option_map natural_text (number_with value)
  kept_number some nothing takes = absurd (no_nothing one.numbers some takes)
    where
      no_nothing : (numbers : Option NumberBounds) → IsSome numbers → Takes numbers nothing → ⊥
      no_nothing None some takes = true≢false (sym some)
      no_nothing (Some n) some takes = takes
  kept_number some (apart n) takes = refl
  kept_number some (joined n) takes = refl

  -- its number is found
  number_found : IsSome one.numbers → (options : List Given) → AllByRecursion (IsGivenOf row.options) options → (rest : List Row)
      → find (is_id one.name) rest ≡ None → first_of one.name (map row_given options ++ rest) ≡ option_map natural_text (number_given one.name options)
  number_found some [] given rest none = ap (option_and_then (λ (r : Row). slice_get r.values 0)) none
  number_found some (g ∷ options) given rest none = at (bytes_eq g.name one.name) refl (number_found some options given.1 rest none)
    where
      at : (b : Bool) → bytes_eq g.name one.name ≡ b → first_of one.name (map row_given options ++ rest) ≡ option_map natural_text (number_given one.name options)
          → option_and_then (λ (r : Row). slice_get r.values 0) (cond (bytes_eq g.name one.name) (Some (row_given g)) (find (is_id one.name) (map row_given options ++ rest)))
          ≡ option_map natural_text (cond (bytes_eq g.name one.name) (number_with g.value) (number_given one.name options))
      at true e later = rw e (kept_number some g.value (takes_of row.options one g is.1 among given.0 ((bytes_eq-Decides g.name one.name).0 e)))
      at false e later = rw e later

  -- the text that a flag keeps
  kept_flag : IsNone one.numbers → (value : Value) → Takes one.numbers value → kept_texts value ≡ codes "true" ∷ []
  kept_flag none nothing takes = refl
  kept_flag none (apart n) takes = absurd (no_number one.numbers none takes)
    where
      no_number : (numbers : Option NumberBounds) → IsNone numbers → Takes numbers (apart n) → ⊥
      no_number None none takes = takes
      no_number (Some m) none takes = true≢false none
  kept_flag none (joined n) takes = absurd (no_number one.numbers none takes)
    where
      no_number : (numbers : Option NumberBounds) → IsNone numbers → Takes numbers (joined n) → ⊥
      no_number None none takes = takes
      no_number (Some m) none takes = true≢false none

  -- its row is found exactly where it is given
  flag_found : IsNone one.numbers → (options : List Given) → AllByRecursion (IsGivenOf row.options) options → (rest : List Row) → find (is_id one.name) rest ≡ None
      → MatchBool (is_given one.name options) (find (is_id one.name) (map row_given options ++ rest) ≡ Some (row_with one.name (codes "true" ∷ []))) (find (is_id one.name) (map row_given options ++ rest) ≡ None)
  flag_found flag [] given rest none = none
  flag_found flag (g ∷ options) given rest none = at (bytes_eq g.name one.name) refl (flag_found flag options given.1 rest none)
    where
      at : (b : Bool) → bytes_eq g.name one.name ≡ b
          → MatchBool (is_given one.name options) (find (is_id one.name) (map row_given options ++ rest) ≡ Some (row_with one.name (codes "true" ∷ []))) (find (is_id one.name) (map row_given options ++ rest) ≡ None)
          → MatchBool (bytes_eq g.name one.name || is_given one.name options)
          (cond (bytes_eq g.name one.name) (Some (row_given g)) (find (is_id one.name) (map row_given options ++ rest)) ≡ Some (row_with one.name (codes "true" ∷ [])))
          (cond (bytes_eq g.name one.name) (Some (row_given g)) (find (is_id one.name) (map row_given options ++ rest)) ≡ None)
      at true e later =
          let named = (bytes_eq-Decides g.name one.name).0 e in
          rw e (ap₂ (λ (name : List ℕ) (texts : List (List ℕ)). Some (row_with name texts)) named (kept_flag flag g.value (takes_of row.options one g is.1 among given.0 named)))
      at false e later = rw e later

-- the plain values are found, and under no option's name
values_found : (row : CommandRow) (is : IsRow row) (options : List Given) → AllByRecursion (IsGivenOf row.options) options → (plain : List ℕ)
    → option_map (λ (r : Row). r.values) (find (is_id values_id) (map row_given options ++ values_rows row is plain)) ≡ values_text plain
values_found row is [] given [] = refl
values_found row is [] given (n ∷ plain) = refl
values_found row is (g ∷ options) given plain =
    let named = is_name row.options g is.0 given.0 in
    ap (λ b. option_map (λ (r : Row). r.values) (cond b (Some (row_given g)) (find (is_id values_id) (map row_given options ++ values_rows row is plain)))) (other_bytes g.name values_id named.2)
    ∙ values_found row is options given.1 plain

no_values : (row : CommandRow) (is : IsRow row) (name : List ℕ) → ¬ (name ≡ values_id) → (plain : List ℕ) → find (is_id name) (values_rows row is plain) ≡ None
no_values row is name other [] = refl
no_values row is name other (n ∷ plain) = ap (λ b. cond b (Some (row_values (map natural_text (n ∷ plain)))) None) (other_bytes values_id name (λ e. other (sym e)))

name_of_option : (options : List OptionRow) (one : OptionRow) → AllByRecursion (λ option. IsName option.name) options → IsOption options one → IsName one.name
name_of_option [] one names h = absurd h
name_of_option (first ∷ options) one names (inl same) = subst (λ (o : OptionRow). IsName o.name) same names.0
name_of_option (first ∷ options) one names (inr h) = name_of_option options one names.1 h

-- ---- the matches of a line hold what it says
module _ (row : CommandRow) (is : IsRow row) (options : List Given) (given : AllByRecursion (IsGivenOf row.options) options) (plain : List ℕ) (found : Found)
    (rows_are : rows_of found ≡ fold with_default (map row_given options ++ values_rows row is plain) (full_rules row)) where
  abbrev made : List Row
  made = map row_given options ++ values_rows row is plain

  last_rows : rows_of found ≡ fold with_default made (map full_option row.options)
  last_rows = rows_are ∙ all_defaults row made

  pub line_held : HoldsLine row options plain found
  line_held = record {
    numbers = λ one among some.
        let named = name_of_option row.options one is.0 among in
        first_value-rows found one.name ∙ ap (first_of one.name) last_rows
        ∙ ap (option_and_then (λ (r : Row). slice_get r.values 0)) (defaults_kept one.name row.options made (no_flag row.options one is.1 among some))
        ∙ number_found row is one among some options given (values_rows row is plain) (no_values row is one.name named.2 plain);
    flags = λ one among flag.
        let named = name_of_option row.options one is.0 among in
        at one among (is_given one.name options) (flag_found row is one among flag options given (values_rows row is plain) (no_values row is one.name named.2 plain));
    values = raw_values-rows found values_id ∙ ap (all_of values_id) last_rows
        ∙ ap (option_map (λ (r : Row). r.values)) (defaults_kept values_id row.options made (no_flag_of_values row.options is.0)) ∙ values_found row is options given plain;
  }
    where
      text_of : (one : OptionRow) → one_text found one.name ≡ option_and_then row_text (find (is_id one.name) (fold with_default made (map full_option row.options)))
      text_of one = one_text-rows found one.name ∙ ap (one_of one.name) last_rows

      at : (one : OptionRow) → IsOption row.options one → (b : Bool) → MatchBool b (find (is_id one.name) made ≡ Some (row_with one.name (codes "true" ∷ []))) (find (is_id one.name) made ≡ None)
          → MatchBool b (one_text found one.name ≡ Some (codes "true")) (IfSome (one_text found one.name) (λ text. text ≡ codes "false"))
      at one among true e = text_of one ∙ ap (option_and_then row_text) (defaults_stay one.name row.options made (row_with one.name (codes "true" ∷ [])) e)
      at one among false e = subst (λ o. IfSome o (λ text. text ≡ codes "false")) (sym (text_of one)) (unset_text (defaults_unset one.name row.options made (inl e)))
        where
          unset_text : IsUnset one.name (fold with_default made (map full_option row.options))
              → IfSome (option_and_then row_text (find (is_id one.name) (fold with_default made (map full_option row.options)))) (λ text. text ≡ codes "false")
          unset_text (inl k) = subst (λ (o : Option Row). IfSome (option_and_then row_text o) (λ text. text ≡ codes "false")) (sym k) tt
          unset_text (inr k) = subst (λ (o : Option Row). IfSome (option_and_then row_text o) (λ text. text ≡ codes "false")) (sym k) refl
