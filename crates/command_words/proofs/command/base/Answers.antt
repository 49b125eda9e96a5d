use Rattle.std.proofs.Common.{refl, inl, arith}
use Rattle.command_words.specs.Grammar.{base_row, flips_option}
use Rattle.command_words.proofs.ValueLemmas.{number_held, number_read}
use Rattle.command_words.proofs.command.base.Goals as goal

pub number_of-flips-requires-clause-given : goal.number_of-flips-requires-clause-given
number_of-flips-requires-clause-given c =
    let (options, plain, line) = c.requires in
    number_held base_row (tt, tt) flips_option (inl refl) _ refl options plain _ (c.in_ok-matches.ensures options plain line) line.given (omega arith)

pub returns : goal.returns
returns c =
    let (options, plain, line) = c.requires in
    (options, plain, line, number_read base_row (tt, tt) flips_option (inl refl) _ refl options plain _ (c.in_ok-matches.ensures options plain line) c.number_of-flips.result c.number_of-flips.ensures)
