use Rattle.std.proofs.Common.{refl, inl, inr, arith, sym, subst}
use Rattle.command_words.specs.Grammar.{trial_row, flips_option, limit_option}
use Rattle.command_words.specs.Commands.{IsNumberOf}
use Rattle.command_words.proofs.CommandLemmas.{trial_names}
use Rattle.clap.specs.Matches.{found_of}
use Rattle.command_words.proofs.ValueLemmas.{number_held, number_read, number_within, value_held, value_within, value_read}
use Rattle.command_words.proofs.command.trial.Goals as goal

pub number_of-flips-requires-clause-given : goal.number_of-flips-requires-clause-given
number_of-flips-requires-clause-given c =
    let (options, plain, line) = c.requires in
    number_held trial_row trial_names flips_option (inl refl) _ refl options plain _ (c.in_ok-matches.ensures options plain line) line.given (omega arith)

pub number_of-limit-requires-clause-given : goal.number_of-limit-requires-clause-given
number_of-limit-requires-clause-given c =
    let (options, plain, line) = c.requires in
    number_held trial_row trial_names limit_option (inr (inl refl)) _ refl options plain _ (c.in_ok-matches.ensures options plain line) line.given (omega arith)

pub value_of-number-requires : goal.value_of-number-requires
value_of-number-requires c =
    let (options, plain, line) = c.requires in
    value_held 200 plain (omega arith) line.fewest line.most line.below (found_of c.in_ok-matches.matches) (c.in_ok-matches.ensures options plain line).values

pub new-requires : goal.new-requires
new-requires c =
    let (options, plain, line) = c.requires in
    (number_within trial_row trial_names limit_option (inr (inl refl)) _ refl options line.given (omega arith) (omega arith) _
    (number_read trial_row trial_names limit_option (inr (inl refl)) _ refl options plain _ (c.in_ok-matches.ensures options plain line) c.number_of-limit.result c.number_of-limit.ensures)).1

pub new-requires-2 : goal.new-requires-2
new-requires-2 c =
    let (options, plain, line) = c.requires in
    value_within 200 plain line.fewest line.most line.below (found_of c.in_ok-matches.matches) (c.in_ok-matches.ensures options plain line).values c.value_of-number.result c.value_of-number.ensures

pub returns : goal.returns
returns c =
    let (options, plain, line) = c.requires in
    let holds = c.in_ok-matches.ensures options plain line in (
      options,
      plain,
      line,
      (
        number_read trial_row trial_names flips_option (inl refl) _ refl options plain _ holds c.number_of-flips.result c.number_of-flips.ensures,
        subst (IsNumberOf limit_option options) (sym c.new.ensures)
            (number_read trial_row trial_names limit_option (inr (inl refl)) _ refl options plain _ holds c.number_of-limit.result c.number_of-limit.ensures),
        value_read plain line.fewest line.most (found_of c.in_ok-matches.matches) holds.values c.value_of-number.result c.new-2.result c.new-2.ensures c.value_of-number.ensures,
      ),
    )
