-- Which commands the words name: `group`, or one that needs no workers.
use Rattle.std.proofs.Common.{◌≡◌, ℕ, inl, inr, List, subst, Option, Some, None}
use Rattle.std.specs.Prelude.{MatchOption}
use Rattle.answer_text.specs.declared.status.Status.{Status}
use Rattle.command_words.specs.declared.command.Command.{Command}
use Rattle.command_words.specs.declared.command.Command.TheVariants.{Check, Base, Region, Path, Plain, Group, Make, Trial}
use Rattle.command_words.specs.Commands.{Names, AreTaken, NameGroup}
use Rattle.command_words.proofs.CallerLemmas.{one_command}
use Rattle.veech_cli.specs.Owed.{ReadsInput}
use Rattle.veech_cli.specs.Runs.{IsCommand, IsPlainCommand, NameOne, Settles}
use Rattle.veech_cli.specs.declared.workers.Asked.{Asked}

-- a command that reads nothing needs no workers
pub plain_unless_reads : (command : Command) → ¬ (ReadsInput command) → IsPlainCommand command
plain_unless_reads Check none = tt
plain_unless_reads (Base flips) none = tt
plain_unless_reads (Region flips) none = tt
plain_unless_reads (Path flips choices) none = tt
plain_unless_reads (Plain flips limit summary) none = tt
plain_unless_reads (Group flips limit workers) none = absurd (none tt)
plain_unless_reads (Make number) none = tt
plain_unless_reads (Trial flips limit number) none = tt

module _ (words : List (List ℕ)) where
  -- words that name a command, and not `group`, name one that needs no workers
  named_plain : ¬ (NameGroup words) → (command : Command) → Names words command → IsPlainCommand command
  named_plain none Check names = tt
  named_plain none (Base flips) names = tt
  named_plain none (Region flips) names = tt
  named_plain none (Path flips choices) names = tt
  named_plain none (Plain flips limit summary) names = tt
  named_plain none (Group flips limit workers) names = absurd (none (flips, limit, workers, names))
  named_plain none (Make number) names = tt
  named_plain none (Trial flips limit number) names = tt

  pub taken_plain : ¬ (NameGroup words) → AreTaken words → NameOne IsPlainCommand words
  taken_plain none (command, names) = (command, names, named_plain none command names)

  pub untaken_plain : ¬ (AreTaken words) → ¬ (NameOne IsPlainCommand words)
  untaken_plain none (command, names, plain) = none (command, names)

  -- words that name such a command don't name `group`
  pub plain_no_group : (command : Command) → Names words command → IsPlainCommand command → ¬ (NameGroup words)
  plain_no_group command names plain (flips, limit, workers, also) = subst IsPlainCommand (one_command words command (Group flips limit workers) names also) plain

  -- and those that name `group` name no such command
  pub group_no_plain : NameGroup words → ¬ (NameOne IsPlainCommand words)
  group_no_plain group (command, names, plain) = plain_no_group command names plain group

  -- what a call without workers settles on for words that don't name `group` is what one with workers does
  pub settles_more : ¬ (NameGroup words) → (input : List ℕ) (status : Status) (text : List ℕ) → Settles IsPlainCommand words input status text → Settles IsCommand words input status text
  settles_more none input status text (inl (command, names, plain, owed)) = inl (command, names, tt, owed)
  settles_more none input status text (inr (inl failed)) = inr (inl failed)
  settles_more none input status text (inr (inr (untaken, is, line))) = inr (inr ((λ all. untaken (taken_plain none (all.0, all.1))), is, line))

  -- where `group` was found, the words name no such command
  pub found_group : (found : Option Command) (command : Command) (flips limit workers : ℕ) → found ≡ Some command → command ≡ Group flips limit workers
      → MatchOption found (¬ (AreTaken words)) (Names words) → ¬ (NameOne IsPlainCommand words)
  found_group found command flips limit workers e is h =
      group_no_plain (flips, limit, workers, subst (Names words) is (subst (λ o. MatchOption o (¬ (AreTaken words)) (Names words)) e h))

  -- where no command was found, they don't name `group`
  pub found_none : (found : Option Command) → found ≡ None → MatchOption found (¬ (AreTaken words)) (Names words) → ¬ (NameGroup words)
  found_none found e h (flips, limit, workers, names) = subst (λ o. MatchOption o (¬ (AreTaken words)) (Names words)) e h (Group flips limit workers, names)

  -- what the command that was found asks for is what the words do
  pub found_asked : (found : Option Command) (command : Command) (asked : Option Asked) → found ≡ Some command → MatchOption found (¬ (AreTaken words)) (Names words)
      → MatchOption asked (IsPlainCommand command) (λ a. command ≡ Group a.flips a.limit a.workers) → MatchOption asked (¬ (NameGroup words)) (λ a. Names words (Group a.flips a.limit a.workers))
  found_asked found command asked e h = one asked (subst (λ o. MatchOption o (¬ (AreTaken words)) (Names words)) e h)
    where
      one : (asked : Option Asked) → Names words command → MatchOption asked (IsPlainCommand command) (λ a. command ≡ Group a.flips a.limit a.workers)
          → MatchOption asked (¬ (NameGroup words)) (λ a. Names words (Group a.flips a.limit a.workers))
      one (Some a) names is = subst (Names words) is names
      one None names plain = plain_no_group command names plain

  -- what is known of what the words ask for where they name `group`, or that they don't
  pub group_named : (found : Option Asked) (asked : Asked) → found ≡ Some asked → MatchOption found (¬ (NameGroup words)) (λ asked. Names words (Group asked.flips asked.limit asked.workers))
      → Names words (Group asked.flips asked.limit asked.workers)
  group_named found asked e h = subst (λ o. MatchOption o (¬ (NameGroup words)) (λ asked. Names words (Group asked.flips asked.limit asked.workers))) e h

  pub group_unnamed : (found : Option Asked) → found ≡ None → MatchOption found (¬ (NameGroup words)) (λ asked. Names words (Group asked.flips asked.limit asked.workers)) → ¬ (NameGroup words)
  group_unnamed found e h = subst (λ o. MatchOption o (¬ (NameGroup words)) (λ asked. Names words (Group asked.flips asked.limit asked.workers))) e h
