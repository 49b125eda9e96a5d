-- What a run settles on, and what it hands out.
use Rattle.std.specs.Prelude.{◌≡◌, ℕ, ◌<◌, ◌⊎◌, ⊤, List, [], length, take, IfSome}
use Rattle.std.specs.Option.{option_map}
use Rattle.std.specs.declared.option.Option.{Option}
use Rattle.io_ends.specs.Ends.{given, taken_after}
use Rattle.answer_text.specs.declared.status.Status.{Status}
use Rattle.answer_text.specs.declared.status.Status.TheVariants.{Words, ReadFault, WriteFault, Memory}
use Rattle.answer_text.specs.Lines.{status_line}
use Rattle.command_words.specs.declared.command.Command.{Command}
use Rattle.command_words.specs.declared.command.Command.TheVariants.{Group}
use Rattle.command_words.specs.Commands.{Names}
use Rattle.veech_cli.specs.Owed.{Owes}

-- the input couldn't be had, or no answer to it: the source failed, or memory ran out
abbrev pub IsFailure : Status → Type 0
IsFailure status = (status ≡ ReadFault) ⊎ (status ≡ Memory)

-- what a run of a command settles on before it writes: what the command owes the input, or a failure with its line
abbrev pub SettlesOn : Command → List ℕ → Status → List ℕ → Type 0
SettlesOn command input status text = Owes command input status text ⊎ (IsFailure status × (text ≡ status_line status))

-- the commands of a call that has workers: all
abbrev pub IsCommand : Command → Type 0
IsCommand command = ⊤

-- the commands of a call without workers: all but `group`
abbrev pub IsPlainCommand : Command → Type 0
IsPlainCommand (Group flips limit workers) = ⊥
IsPlainCommand command = ⊤

-- the words name one of these commands
abbrev pub NameOne : (Command → Type 0) → List (List ℕ) → Type 0
NameOne Takes words = (command : Command) × Names words command × Takes command

-- what a run of any words settles on, of a call that takes these commands: what the command owes the input that they name, a failure with its line, or that they
-- name none of these
abbrev pub Settles : (Command → Type 0) → List (List ℕ) → List ℕ → Status → List ℕ → Type 0
Settles Takes words input status text =
    ((command : Command) × Names words command × Takes command × Owes command input status text)
    ⊎ (IsFailure status × (text ≡ status_line status))
    ⊎ (¬ (NameOne Takes words) × (status ≡ Words) × (text ≡ status_line Words))

-- the input is what the source had left, where it tells it
abbrev pub IsInput : Option (List ℕ) → List ℕ → Type 0
IsInput left input = IfSome left (λ bytes. input ≡ bytes)

-- some input for which this holds is what the source had left
abbrev pub SomeInput : Option (List ℕ) → (List ℕ → Type 0) → Type 0
SomeInput left P = (input : List ℕ) × IsInput left input × P input

-- the status was answered and its text taken whole; or the sink failed, and a proper prefix of the text was taken
abbrev pub Delivers : Status → List ℕ → Status → Option (List ℕ) → Option (List ℕ) → Type 0
Delivers status text result before after =
    ((result ≡ status) × (after ≡ taken_after before text))
    ⊎ ((result ≡ WriteFault) × ((n : ℕ) × (n < length text) × (after ≡ taken_after before (take n text))))

-- all of the input was read, or one byte more than it may have
abbrev pub IsReadWhole : Option (List ℕ) → Option (List ℕ) → Type 0
IsReadWhole before after =
    (after ≡ option_map (λ _. []) before)
    ⊎ ((n : ℕ) × (n ≡ 1048577) × (after ≡ given n before))

-- a status that says nothing of the input: the words were refused, an end failed, or memory ran out
abbrev pub SaysNothing : Status → Type 0
SaysNothing status = (status ≡ Words) ⊎ (status ≡ ReadFault) ⊎ (status ≡ WriteFault) ⊎ (status ≡ Memory)
