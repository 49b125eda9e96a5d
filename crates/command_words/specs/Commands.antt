-- The commands, and the words that name them.
use Rattle.std.specs.Prelude.{◌≡◌, ℕ, List, [], ◌∷◌, MatchOption, IsSomeAnd, ⊤}
use Rattle.command_words.specs.Lines.{OptionRow, CommandRow, Given, IsLine, number_given, is_given}
use Rattle.command_words.specs.Grammar.{check_row, base_row, region_row, path_row, plain_row, group_row, make_row, trial_row, flips_option, limit_option, workers_option, summary_option}
use Rattle.command_words.specs.declared.command.Command.{Command}
use Rattle.command_words.specs.declared.command.Command.TheVariants.{Check, Base, Region, Path, Plain, Group, Make, Trial}

-- the number of an option in a line: the one that it is given there, or else the one that stands unless it is given
abbrev pub IsNumberOf : OptionRow → List Given → ℕ → Type 0
IsNumberOf option options n = MatchOption (number_given option.name options) (IsSomeAnd option.numbers (λ numbers. n ≡ numbers.unless_given)) (λ given. n ≡ given)

-- the row of a command
abbrev pub row_of_command : Command → CommandRow
row_of_command Check = check_row
row_of_command (Base flips) = base_row
row_of_command (Region flips) = region_row
row_of_command (Path flips choices) = path_row
row_of_command (Plain flips limit summary) = plain_row
row_of_command (Group flips limit workers) = group_row
row_of_command (Make number) = make_row
row_of_command (Trial flips limit number) = trial_row

-- the options and the plain values of a line say what the command has
abbrev pub AreRead : Command → List Given → List ℕ → Type 0
AreRead Check options plain = ⊤
AreRead (Base flips) options plain = IsNumberOf flips_option options flips
AreRead (Region flips) options plain = IsNumberOf flips_option options flips
AreRead (Path flips choices) options plain = IsNumberOf flips_option options flips × (choices ≡ plain)
AreRead (Plain flips limit summary) options plain =
    IsNumberOf flips_option options flips × IsNumberOf limit_option options limit × (summary ≡ is_given summary_option.name options)
AreRead (Group flips limit workers) options plain =
    IsNumberOf flips_option options flips × IsNumberOf limit_option options limit × IsNumberOf workers_option options workers
AreRead (Make number) options plain = plain ≡ number ∷ []
AreRead (Trial flips limit number) options plain =
    IsNumberOf flips_option options flips × IsNumberOf limit_option options limit × (plain ≡ number ∷ [])

-- the words of a command line name this command: they are a line of its row, and say what it has
abbrev pub Names : List (List ℕ) → Command → Type 0
Names words command = (options : List Given) × (plain : List ℕ) × IsLine (row_of_command command) options plain words × AreRead command options plain

-- the words are in the grammar: they name a command
abbrev pub AreTaken : List (List ℕ) → Type 0
AreTaken words = (command : Command) × Names words command

-- the words name `group`
abbrev pub NameGroup : List (List ℕ) → Type 0
NameGroup words = (flips : ℕ) × (limit : ℕ) × (workers : ℕ) × Names words (Group flips limit workers)
