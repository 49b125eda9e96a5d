-- What clap reads of a line: it takes the words, and its matches hold what they say.
use Rattle.std.proofs.Common.{◌≡◌, ◌∙◌, ◌&&◌, ◌||◌, ◌⊎◌, ℕ, Bool, true, false, true≢false, not, cond, nat_lt, List, [], ◌∷◌, ◌++◌, map, drop, codes, Option, Some, None, IsSome, IsNone, option_map, refl, ap, ap₂, sym, subst, inl, inr}
use Rattle.std.specs.List.{fold, flat_map, list_all}
use Rattle.clap.specs.Walk.{Row, Rule, Walk, finished, nothing_held, rows_of, walk, with_default}
use Rattle.clap.specs.Simple.{App, HasMatchesOf, argument_words, entered, matches_of, names_of}
use Rattle.clap.specs.Takes.{built_takes, default_passes, entered_passes, is_given as is_row_given, is_valid, settle_passes, takes}
use Rattle.clap.specs.Matches.{found_of}
use Rattle.clap.specs.declared.parser.matches.ArgMatches.{ArgMatches}
use Rattle.plane.specs.Spelling.{natural_text}
use Rattle.command_words.specs.declared.rows.NumberBounds.{NumberBounds}
use Rattle.command_words.specs.Lines.{CommandRow, Given, given_words, IsLine}
use Rattle.command_words.specs.Fronts.{IsRow}
use Rattle.command_words.specs.Parsers.{parser_of}
use Rattle.command_words.proofs.RuleLemmas.{full_with, full_rules, full_shape, full_app, built_row, simple_row, full_rules_pass}
use Rattle.command_words.proofs.RowLemmas.{row_given}
use Rattle.command_words.proofs.WalkLemmas.{line_walk, values_rows}

-- ---- clap takes the words
module _ (row : CommandRow) (is : IsRow row) where
  abbrev rules : List Rule
  rules = full_rules row

  -- what a parse asks behind its walk
  abbrev asks_behind : Walk → Bool → Bool
  asks_behind w passes =
      entered_passes (full_app row) w.stopped
      && (passes && (settle_passes rules false w.held && (list_all default_passes rules && is_valid (full_shape row.word rules) (finished rules w.held) (Rattle.std.proofs.Common.is_some (entered (full_app row) w.stopped)))))

  defaults_pass : list_all default_passes rules ≡ true
  defaults_pass = full_rules_pass default_passes row one refl
    where
      one : (name : List ℕ) (numbers : Option NumberBounds) → default_passes (full_with name numbers) ≡ true
      one name None = refl
      one name (Some numbers) = refl

  all_free : list_all (λ a. a.is_free) rules ≡ true
  all_free = full_rules_pass (λ a. a.is_free) row one refl
    where
      one : (name : List ℕ) (numbers : Option NumberBounds) → (full_with name numbers).is_free ≡ true
      one name None = refl
      one name (Some numbers) = refl

  none_required : (rows : List Row) → list_all (λ a. not a.required || is_row_given a.id rows) rules ≡ true
  none_required rows = full_rules_pass (λ a. not a.required || is_row_given a.id rows) row one refl
    where
      one : (name : List ℕ) (numbers : Option NumberBounds) → (not (full_with name numbers).required || is_row_given (full_with name numbers).id rows) ≡ true
      one name None = refl
      one name (Some numbers) = refl

  module _ (options : List Given) (plain : List ℕ) (words : List (List ℕ)) (line : IsLine row options plain words) where
    abbrev arguments : List (List ℕ)
    arguments = flat_map given_words options ++ map natural_text plain

    behind_word : argument_words (parser_of row) words ≡ arguments
    behind_word = ap (drop 1) line.spelled

    -- the command takes the words
    pub line_taken : takes (parser_of row) words ≡ true
    line_taken =
        let (later, after, holds, walks, passes) = line_walk row is options plain line.given line.once line.most in
        let rows = finished rules later in
        let behind : built_takes (full_app row) nothing_held arguments ≡ true =
        ap₂ asks_behind walks passes ∙ (λ i. holds.passes i && (defaults_pass i && (all_free i && none_required rows i))) in
        ap₂ (λ (a b : Bool). a && b) (simple_row row) (ap₂ (λ (app : App) (ws : List (List ℕ)). built_takes app nothing_held ws) (built_row row) behind_word ∙ behind)

    -- its matches are these rows, and defaults
    pub line_rows : (matches : ArgMatches) → HasMatchesOf (parser_of row) words matches → rows_of (found_of matches) ≡ fold with_default (map row_given options ++ values_rows row is plain) rules
    line_rows matches has =
        let (later, after, holds, walks, passes) = line_walk row is options plain line.given line.once line.most in
        let same : matches_of (parser_of row) words ≡ finished rules (walk rules [] nothing_held arguments).held =
        ap₂ (λ (app : App) (ws : List (List ℕ)). finished app.top.rules (walk app.top.rules (names_of app) nothing_held ws).held) (built_row row) behind_word in
        (has (simple_row row)).0 ∙ same ∙ ap (λ (w : Walk). finished rules w.held) walks ∙ ap (λ rows. fold with_default rows rules) holds.rows_are
