use Rattle.std.proofs.Common.{arith}
use Rattle.clap.specs.Matches.{found_of}
use Rattle.command_words.proofs.ValueLemmas.{value_held, value_within, value_read}
use Rattle.command_words.proofs.command.make.Goals as goal

pub value_of-number-requires : goal.value_of-number-requires
value_of-number-requires c =
    let (options, plain, line) = c.requires in
    value_held 200 plain (omega arith) line.fewest line.most line.below (found_of c.in_ok-matches.matches) (c.in_ok-matches.ensures options plain line).values

pub new-requires : goal.new-requires
new-requires c =
    let (options, plain, line) = c.requires in
    value_within 200 plain line.fewest line.most line.below (found_of c.in_ok-matches.matches) (c.in_ok-matches.ensures options plain line).values c.value_of-number.result c.value_of-number.ensures

pub returns : goal.returns
returns c =
    let (options, plain, line) = c.requires in
    (options, plain, line, value_read plain line.fewest line.most (found_of c.in_ok-matches.matches) (c.in_ok-matches.ensures options plain line).values c.value_of-number.result c.new.result c.new.ensures c.value_of-number.ensures)
