-- The arguments of a row's command as clap's building fills them in, and how clap finds them.
use Rattle.std.proofs.Common.{◌≡◌, ◌∙◌, ◌&&◌, ◌||◌, ℕ, ◌+◌, ◌<◌, arith, Bool, true, false, not, cond, nat_lt, List, [], ◌∷◌, ◌++◌, map, codes, Option, Some, None, is_some, unwrap_or, refl, ap, ap₂, sym, subst, inl, inr}
use Rattle.std.specs.List.{AllByRecursion, find, list_all, list_any, count_by}
use Rattle.std.specs.Option.{option_map_or}
use Rattle.std.proofs.lemmas.Bool.Decides.{nat_tests}
use Rattle.std.specs.Prelude.{◌==◌}
use Rattle.std.specs.Str.{bytes_eq}
use Rattle.std.proofs.lemmas.Slice.Eq.{bytes_eq-Decides}
use Rattle.std.proofs.lemmas.List.Folds.{list_all-append, list_any-append}
use Rattle.std.proofs.lemmas.List.Recursion.{is_count_by}
use Rattle.clap.specs.Walk.{Rule, arg_by_id, arg_by_long, arg_by_index, has_long, is_early_multiple, is_multiple}
use Rattle.clap.specs.Simple.{App, Shape, built, filled_from, is_in_order, is_simple, new_rule, new_shape}
use Rattle.clap.specs.declared.builder.action.ArgAction.TheVariants.{Set, Append, SetTrue}
use Rattle.clap.specs.declared.builder.value_parser.ValueParser.TheVariants as parsers
use Rattle.command_words.specs.declared.rows.NumberBounds.{NumberBounds}
use Rattle.command_words.specs.declared.rows.PlainBounds.{PlainBounds}
use Rattle.command_words.specs.Lines.{OptionRow, CommandRow, AreDistinct}
use Rattle.command_words.specs.Fronts.{IsName, IsRow}
use Rattle.command_words.specs.Parsers.{option_rule, option_rule_with, values_id, values_rule, values_rules, parser_of, IsOption}

-- ---- what building makes of the arguments
abbrev pub full_with : List ℕ → Option NumberBounds → Rule
full_with name None = record (new_rule name) {
  long = Some name;
  action = Some SetTrue;
  range = Some (record { start_inclusive = 0; end_inclusive = 0 });
  defaults = codes "false" ∷ [];
  missing = codes "true" ∷ [];
  parser = Some parsers.Bool;
}
full_with name (Some numbers) = record (new_rule name) {
  long = Some name;
  action = Some Set;
  range = Some (record { start_inclusive = 1; end_inclusive = 1 });
  parser = Some parsers.String;
}

abbrev pub full_option : OptionRow → Rule
full_option option = full_with option.name option.numbers

abbrev pub full_values : Rule
full_values = record (new_rule values_id) {
  index = Some 1;
  action = Some Append;
  range = Some (record { start_inclusive = 1; end_inclusive = 1 });
  parser = Some parsers.String;
}

abbrev pub full_plain : PlainBounds → List Rule
full_plain plain = cond (nat_lt 0 plain.most) (full_values ∷ []) []

abbrev pub full_rules : CommandRow → List Rule
full_rules row = map full_option row.options ++ full_plain row.plain

filled_one : (name : List ℕ) (numbers : Option NumberBounds) (rest : List Rule) → filled_from 1 (option_rule_with name numbers ∷ rest) ≡ full_with name numbers ∷ filled_from 1 rest
filled_one name None rest = refl
filled_one name (Some numbers) rest = refl

filled_options : (options : List OptionRow) (rest : List Rule) → filled_from 1 (map option_rule options ++ rest) ≡ map full_option options ++ filled_from 1 rest
filled_options [] rest = refl
filled_options (option ∷ options) rest =
    filled_one option.name option.numbers (map option_rule options ++ rest) ∙ ap (λ rules. full_option option ∷ rules) (filled_options options rest)

filled_values : (b : Bool) → filled_from 1 (cond b (values_rule ∷ []) []) ≡ cond b (full_values ∷ []) []
filled_values true = refl
filled_values false = refl

filled_rules : (row : CommandRow) → filled_from 1 (map option_rule row.options ++ values_rules row.plain) ≡ full_rules row
filled_rules row = filled_options row.options (values_rules row.plain) ∙ ap (λ rules. map full_option row.options ++ rules) (filled_values (nat_lt 0 row.plain.most))

-- the built command
abbrev pub full_shape : List ℕ → List Rule → Shape
full_shape word rules = record (new_shape word) { rules = rules; disable_help_flag = true; disable_help_subcommand = true; is_built = true }

abbrev pub full_app : CommandRow → App
full_app row = record { top = full_shape row.word (full_rules row); subs = [] }

pub built_row : (row : CommandRow) → built (parser_of row) ≡ full_app row
built_row row = ap (λ rules. record { top = full_shape row.word rules; subs = [] }) (filled_rules row)

-- ---- what holds of all arguments
module _ (p : Rule → Bool) where
  options_pass : (rule_with : List ℕ → Option NumberBounds → Rule) → ((name : List ℕ) (numbers : Option NumberBounds) → p (rule_with name numbers) ≡ true)
      → (options : List OptionRow) → list_all p (map (λ option. rule_with option.name option.numbers) options) ≡ true
  options_pass rule_with each [] = refl
  options_pass rule_with each (option ∷ options) = ap₂ (λ (a b : Bool). a && b) (each option.name option.numbers) (options_pass rule_with each options)

  plain_pass : (rule : Rule) → p rule ≡ true → (b : Bool) → list_all p (cond b (rule ∷ []) []) ≡ true
  plain_pass rule one true = ap (λ b. b && true) one
  plain_pass rule one false = refl

  -- of those that the row asks for
  pub row_rules_pass : (row : CommandRow) → ((name : List ℕ) (numbers : Option NumberBounds) → p (option_rule_with name numbers) ≡ true) → p values_rule ≡ true
      → list_all p (map option_rule row.options ++ values_rules row.plain) ≡ true
  row_rules_pass row each one = list_all-append p (map option_rule row.options) (values_rules row.plain)
      ∙ ap₂ (λ (a b : Bool). a && b) (options_pass option_rule_with each row.options) (plain_pass values_rule one (nat_lt 0 row.plain.most))

  -- and of the filled ones
  pub full_rules_pass : (row : CommandRow) → ((name : List ℕ) (numbers : Option NumberBounds) → p (full_with name numbers) ≡ true) → p full_values ≡ true
      → list_all p (full_rules row) ≡ true
  full_rules_pass row each one = list_all-append p (map full_option row.options) (full_plain row.plain)
      ∙ ap₂ (λ (a b : Bool). a && b) (options_pass full_with each row.options) (plain_pass full_values one (nat_lt 0 row.plain.most))

-- ---- the plain values are the last positional
-- no option has a place
no_place : (name : List ℕ) (numbers : Option NumberBounds) → is_some (full_with name numbers).index ≡ false
no_place name None = refl
no_place name (Some numbers) = refl

-- how many arguments have a place
abbrev places : List Rule → ℕ
places [] = 0
places (rule ∷ rules) = cond (is_some rule.index) (1 + places rules) (places rules)

places_options : (options : List OptionRow) (rest : List Rule) → places (map full_option options ++ rest) ≡ places rest
places_options [] rest = refl
places_options (option ∷ options) rest = ap (λ b. cond b (1 + places (map full_option options ++ rest)) (places (map full_option options ++ rest))) (no_place option.name option.numbers) ∙ places_options options rest

none_early : (n : ℕ) (options : List OptionRow) → list_any (is_early_multiple n) (map full_option options) ≡ false
none_early n [] = refl
none_early n (option ∷ options) = ap (λ b. (b && is_multiple (full_option option) && not (n == unwrap_or (full_option option).index 0)) || list_any (is_early_multiple n) (map full_option options)) (no_place option.name option.numbers) ∙ none_early n options

early_rest : (n : ℕ) (options : List OptionRow) (rest : List Rule) → list_any (is_early_multiple n) (map full_option options ++ rest) ≡ list_any (is_early_multiple n) rest
early_rest n options rest = list_any-append (is_early_multiple n) (map full_option options) rest ∙ ap (λ b. b || list_any (is_early_multiple n) rest) (none_early n options)

in_order_at : (options : List OptionRow) (b : Bool) → is_in_order (map full_option options ++ cond b (full_values ∷ []) []) ≡ true
in_order_at options false = ap not (early_rest (count_by (λ a. is_some a.index) (map full_option options ++ [])) options [])
in_order_at options true =
    let rules = map full_option options ++ full_values ∷ [] in
    let n = count_by (λ (a : Rule). is_some a.index) rules in
    let one : n ≡ 1 = sym (is_count_by places (λ a. is_some a.index) refl (λ _ _. refl) rules) ∙ places_options options (full_values ∷ []) in
    ap not (early_rest n options (full_values ∷ []) ∙ ap (λ k. list_any (is_early_multiple k) (full_values ∷ [])) one)

in_order : (row : CommandRow) → is_in_order (full_rules row) ≡ true
in_order row = in_order_at row.options (nat_lt 0 row.plain.most)

-- ---- the command is simple
pub simple_row : (row : CommandRow) → is_simple (parser_of row) ≡ true
simple_row row =
    let asked = row_rules_pass (λ (a : Rule). a.is_simple) row simple_asked refl in
    let full = ap (list_all (λ (a : Rule). a.is_simple)) (filled_rules row) ∙ full_rules_pass (λ (a : Rule). a.is_simple) row simple_full refl in
    let last = ap is_in_order (filled_rules row) ∙ in_order row in
    λ i. (asked i && true) && ((full i && last i) && true)
  where
    simple_asked : (name : List ℕ) (numbers : Option NumberBounds) → (option_rule_with name numbers).is_simple ≡ true
    simple_asked name None = refl
    simple_asked name (Some numbers) = refl

    simple_full : (name : List ℕ) (numbers : Option NumberBounds) → (full_with name numbers).is_simple ≡ true
    simple_full name None = refl
    simple_full name (Some numbers) = refl

-- ---- how clap finds an argument
or_false : (b : Bool) → (b || false) ≡ b
or_false true = refl
or_false false = refl

pub same_bytes : (xs ys : List ℕ) → xs ≡ ys → bytes_eq xs ys ≡ true
same_bytes xs ys e = (bytes_eq-Decides xs ys).1 e

pub other_bytes : (xs ys : List ℕ) → ¬ (xs ≡ ys) → bytes_eq xs ys ≡ false
other_bytes xs ys ne = at (bytes_eq xs ys) (bytes_eq-Decides xs ys).0
  where
    at : (b : Bool) → (b ≡ true → xs ≡ ys) → b ≡ false
    at true same = absurd (ne (same refl))
    at false same = refl

-- an option is told from those before it by its name
pub option_name : (options : List OptionRow) (option : OptionRow) → AllByRecursion (λ other. ¬ (other ≡ option.name)) (map (λ o. o.name) options) → ¬ (IsOption options option)
option_name [] option others h = h
option_name (first ∷ options) option others (inl e) = others.0 (ap (λ (o : OptionRow). o.name) e)
option_name (first ∷ options) option others (inr h) = option_name options option others.1 h

module _ (test : Rule → Bool) (key : List ℕ) (tests : (name : List ℕ) (numbers : Option NumberBounds) → test (full_with name numbers) ≡ bytes_eq name key) where
  -- the first argument that passes a test of names is the option of this name
  pub find_option : (options : List OptionRow) (option : OptionRow) (rest : List Rule) → AreDistinct (map (λ o. o.name) options) → IsOption options option → option.name ≡ key
      → find test (map full_option options ++ rest) ≡ Some (full_option option)
  find_option [] option rest distinct h named = absurd h
  find_option (first ∷ options) option rest distinct (inl e) named =
      let hit : test (full_option first) ≡ true = tests first.name first.numbers ∙ same_bytes first.name key (ap (λ (o : OptionRow). o.name) e ∙ named) in
      ap (λ b. cond b (Some (full_option first)) (find test (map full_option options ++ rest))) hit ∙ ap (λ o. Some (full_option o)) e
  find_option (first ∷ options) option rest distinct (inr h) named =
      let miss : test (full_option first) ≡ false = tests first.name first.numbers
      ∙ other_bytes first.name key (λ e. option_name options option (subst (λ name. AllByRecursion (λ other. ¬ (other ≡ name)) (map (λ (o : OptionRow). o.name) options)) (e ∙ sym named) distinct.0) h) in
      ap (λ b. cond b (Some (full_option first)) (find test (map full_option options ++ rest))) miss ∙ find_option options option rest distinct.1 h named

  -- and where no option has the name, it is behind them
  pub find_behind : (options : List OptionRow) (rest : List Rule) → AllByRecursion (λ option. ¬ (option.name ≡ key)) options → find test (map full_option options ++ rest) ≡ find test rest
  find_behind [] rest others = refl
  find_behind (first ∷ options) rest others =
      ap (λ b. cond b (Some (full_option first)) (find test (map full_option options ++ rest))) (tests first.name first.numbers ∙ other_bytes first.name key others.0)
      ∙ find_behind options rest others.1

module _ (row : CommandRow) (is : IsRow row) (option : OptionRow) (h : IsOption row.options option) where
  pub by_long : arg_by_long (full_rules row) option.name ≡ Some (full_option option)
  by_long = find_option (λ a. not (is_some a.index) && has_long a option.name) option.name tests row.options option (full_plain row.plain) is.1 h refl
    where
      tests : (name : List ℕ) (numbers : Option NumberBounds) → (not (is_some (full_with name numbers).index) && has_long (full_with name numbers) option.name) ≡ bytes_eq name option.name
      tests name None = or_false (bytes_eq name option.name)
      tests name (Some numbers) = or_false (bytes_eq name option.name)

  pub by_id : arg_by_id (full_rules row) option.name ≡ Some (full_option option)
  by_id = find_option (λ a. bytes_eq a.id option.name) option.name tests row.options option (full_plain row.plain) is.1 h refl
    where
      tests : (name : List ℕ) (numbers : Option NumberBounds) → bytes_eq (full_with name numbers).id option.name ≡ bytes_eq name option.name
      tests name None = refl
      tests name (Some numbers) = refl

pub not_values : (options : List OptionRow) → AllByRecursion (λ option. IsName option.name) options → AllByRecursion (λ option. ¬ (option.name ≡ values_id)) options
not_values [] names = tt
not_values (option ∷ options) names = (names.0.2, not_values options names.1)

module _ (row : CommandRow) (is : IsRow row) (some : 0 < row.plain.most) where
  there : nat_lt 0 row.plain.most ≡ true
  there = grind (arith, nat_tests)

  pub values_by_id : arg_by_id (full_rules row) values_id ≡ Some full_values
  values_by_id = find_behind (λ a. bytes_eq a.id values_id) values_id tests row.options (full_plain row.plain) (not_values row.options is.0)
      ∙ ap (λ b. find (λ (a : Rule). bytes_eq a.id values_id) (cond b (full_values ∷ []) [])) there
    where
      tests : (name : List ℕ) (numbers : Option NumberBounds) → bytes_eq (full_with name numbers).id values_id ≡ bytes_eq name values_id
      tests name None = refl
      tests name (Some numbers) = refl

  pub values_by_place : arg_by_index (full_rules row) 1 ≡ Some full_values
  values_by_place = at row.options ∙ ap (λ b. find (λ (a : Rule). option_map_or (λ k. k == 1) a.index false) (cond b (full_values ∷ []) [])) there
    where
      one : (name : List ℕ) (numbers : Option NumberBounds) → option_map_or (λ k. k == 1) (full_with name numbers).index false ≡ false
      one name None = refl
      one name (Some numbers) = refl

      at : (options : List OptionRow) → find (λ (a : Rule). option_map_or (λ k. k == 1) a.index false) (map full_option options ++ full_plain row.plain)
          ≡ find (λ (a : Rule). option_map_or (λ k. k == 1) a.index false) (full_plain row.plain)
      at [] = refl
      at (option ∷ options) = ap (λ b. cond b (Some (full_option option)) (find (λ (a : Rule). option_map_or (λ k. k == 1) a.index false) (map full_option options ++ full_plain row.plain)))
          (one option.name option.numbers) ∙ at options
