use Rattle.std.proofs.Common.{refl, inl, arith}
use Rattle.command_words.specs.Grammar.{path_row, flips_option}
use Rattle.command_words.proofs.ValueLemmas.{number_held, number_read, small_values, same_plain}
use Rattle.command_words.proofs.command.path.Goals as goal

pub number_of-flips-requires-clause-given : goal.number_of-flips-requires-clause-given
number_of-flips-requires-clause-given c =
    let (options, plain, line) = c.requires in
    number_held path_row (tt, tt) flips_option (inl refl) _ refl options plain _ (c.in_ok-matches.ensures options plain line) line.given (omega arith)

pub choices_of-requires : goal.choices_of-requires
choices_of-requires c =
    let (options, plain, line) = c.requires in
    (plain, line.most, small_values 1000 plain (omega arith) line.below, (c.in_ok-matches.ensures options plain line).values)

pub returns : goal.returns
returns c =
    let (options, plain, line) = c.requires in
    let holds = c.in_ok-matches.ensures options plain line in
    (options, plain, line, (number_read path_row (tt, tt) flips_option (inl refl) _ refl options plain _ holds c.number_of-flips.result c.number_of-flips.ensures, same_plain _ _ _ c.in_ok-choices.ensures holds.values))
