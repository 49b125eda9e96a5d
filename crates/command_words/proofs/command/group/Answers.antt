use Rattle.std.proofs.Common.{refl, inl, inr, arith, sym, subst}
use Rattle.command_words.specs.Grammar.{group_row, flips_option, limit_option, workers_option}
use Rattle.command_words.specs.Commands.{IsNumberOf}
use Rattle.command_words.proofs.CommandLemmas.{group_names}
use Rattle.command_words.proofs.ValueLemmas.{number_held, number_read, number_within}
use Rattle.command_words.proofs.command.group.Goals as goal

pub number_of-flips-requires-clause-given : goal.number_of-flips-requires-clause-given
number_of-flips-requires-clause-given c =
    let (options, plain, line) = c.requires in
    number_held group_row group_names flips_option (inl refl) _ refl options plain _ (c.in_ok-matches.ensures options plain line) line.given (omega arith)

pub number_of-limit-requires-clause-given : goal.number_of-limit-requires-clause-given
number_of-limit-requires-clause-given c =
    let (options, plain, line) = c.requires in
    number_held group_row group_names limit_option (inr (inl refl)) _ refl options plain _ (c.in_ok-matches.ensures options plain line) line.given (omega arith)

pub number_of-workers-requires-clause-given : goal.number_of-workers-requires-clause-given
number_of-workers-requires-clause-given c =
    let (options, plain, line) = c.requires in
    number_held group_row group_names workers_option (inr (inr (inl refl))) _ refl options plain _ (c.in_ok-matches.ensures options plain line) line.given (omega arith)

pub new-requires : goal.new-requires
new-requires c =
    let (options, plain, line) = c.requires in
    (number_within group_row group_names limit_option (inr (inl refl)) _ refl options line.given (omega arith) (omega arith) _
    (number_read group_row group_names limit_option (inr (inl refl)) _ refl options plain _ (c.in_ok-matches.ensures options plain line) c.number_of-limit.result c.number_of-limit.ensures)).1

pub new-requires-2 : goal.new-requires-2
new-requires-2 c =
    let (options, plain, line) = c.requires in
    number_within group_row group_names workers_option (inr (inr (inl refl))) _ refl options line.given (omega arith) (omega arith) _
    (number_read group_row group_names workers_option (inr (inr (inl refl))) _ refl options plain _ (c.in_ok-matches.ensures options plain line) c.number_of-workers.result c.number_of-workers.ensures)

pub returns : goal.returns
returns c =
    let (options, plain, line) = c.requires in
    let holds = c.in_ok-matches.ensures options plain line in (
      options,
      plain,
      line,
      (
        number_read group_row group_names flips_option (inl refl) _ refl options plain _ holds c.number_of-flips.result c.number_of-flips.ensures,
        subst (IsNumberOf limit_option options) (sym c.new.ensures)
            (number_read group_row group_names limit_option (inr (inl refl)) _ refl options plain _ holds c.number_of-limit.result c.number_of-limit.ensures),
        subst (IsNumberOf workers_option options) (sym c.new-2.ensures)
            (number_read group_row group_names workers_option (inr (inr (inl refl))) _ refl options plain _ holds c.number_of-workers.result c.number_of-workers.ensures),
      ),
    )
