-- The clap command of a row, and what its matches hold of a line. No public contract cites this: it serves private clauses.
use Rattle.std.specs.Prelude.{◌≡◌, ◌++◌, ◌⊎◌, ℕ, true, List, [], ◌∷◌, map, codes, Option, Some, None, option_map, nat_lt, if◌then◌else◌, IsSome, IsNone, IfSome}
use Rattle.std.specs.Bool.{MatchBool}
use Rattle.clap.specs.Walk.{Rule}
use Rattle.clap.specs.Simple.{App, new_rule, new_shape}
use Rattle.clap.specs.Matches.{first_value, one_text, matched_of, raw_values}
use Rattle.clap.specs.declared.builder.action.ArgAction.TheVariants.{Set, Append, SetTrue}
use Rattle.clap.specs.declared.parser.matches.Found.{Found}
use Rattle.plane.specs.Spelling.{natural_text}
use Rattle.command_words.specs.declared.rows.NumberBounds.{NumberBounds}
use Rattle.command_words.specs.declared.rows.PlainBounds.{PlainBounds}
use Rattle.command_words.specs.Lines.{OptionRow, CommandRow, Given, number_given, is_given}

-- the argument of an option: a flag, or one with a value
abbrev pub option_rule_with : List ℕ → Option NumberBounds → Rule
option_rule_with name None = record (new_rule name) { long = Some name; action = Some SetTrue }
option_rule_with name (Some numbers) = record (new_rule name) { long = Some name; action = Some Set }

abbrev pub option_rule : OptionRow → Rule
option_rule option = option_rule_with option.name option.numbers

-- the id of the plain values
abbrev pub values_id : List ℕ
values_id = codes "values"

-- the argument of the plain values
abbrev pub values_rule : Rule
values_rule = record (new_rule values_id) { action = Some Append }

-- it is there where there may be plain values
abbrev pub values_rules : PlainBounds → List Rule
values_rules plain = if nat_lt 0 plain.most then values_rule ∷ [] else []

-- a command of this name with these arguments, without a flag for help
abbrev pub parser_with : List ℕ → List Rule → App
parser_with word rules = record { top = record (new_shape word) { rules = rules; disable_help_flag = true }; subs = [] }

-- the command of a row
abbrev pub parser_of : CommandRow → App
parser_of row = parser_with row.word (map option_rule row.options ++ values_rules row.plain)

-- one of the options of a row
abbrev pub IsOption : List OptionRow → OptionRow → Type 0
IsOption [] option = ⊥
IsOption (first ∷ options) option = (first ≡ option) ⊎ IsOption options option

-- the text of some plain values, where there are any
abbrev pub values_text : List ℕ → Option (List (List ℕ))
values_text [] = None
values_text (n ∷ plain) = Some (map natural_text (n ∷ plain))

-- the matches hold these plain values
abbrev pub HoldsPlain : List ℕ → Found → Type 0
HoldsPlain plain found = option_map raw_values (matched_of found values_id) ≡ values_text plain

-- the matches hold what a line of the row says: the number that an option is given, whether a flag is given, and the plain values
pub record HoldsLine (row : CommandRow) (options : List Given) (plain : List ℕ) (found : Found) : Type 0 where
  pub numbers : (option : OptionRow) → IsOption row.options option → IsSome option.numbers → first_value found option.name ≡ option_map natural_text (number_given option.name options)
  pub flags : (option : OptionRow) → IsOption row.options option → IsNone option.numbers
      → MatchBool (is_given option.name options) (one_text found option.name ≡ Some (codes "true")) (IfSome (one_text found option.name) (λ text. text ≡ codes "false"))
  pub values : HoldsPlain plain found
