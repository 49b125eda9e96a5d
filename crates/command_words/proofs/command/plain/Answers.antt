use Rattle.std.proofs.Common.{refl, inl, inr, arith, sym, subst}
use Rattle.command_words.specs.Grammar.{plain_row, flips_option, limit_option, summary_option}
use Rattle.command_words.specs.Commands.{IsNumberOf}
use Rattle.command_words.proofs.CommandLemmas.{plain_names}
use Rattle.command_words.proofs.ValueLemmas.{number_held, number_read, number_within, flag_read}
use Rattle.command_words.proofs.command.plain.Goals as goal

pub number_of-flips-requires-clause-given : goal.number_of-flips-requires-clause-given
number_of-flips-requires-clause-given c =
    let (options, plain, line) = c.requires in
    number_held plain_row plain_names flips_option (inl refl) _ refl options plain _ (c.in_ok-matches.ensures options plain line) line.given (omega arith)

pub number_of-limit-requires-clause-given : goal.number_of-limit-requires-clause-given
number_of-limit-requires-clause-given c =
    let (options, plain, line) = c.requires in
    number_held plain_row plain_names limit_option (inr (inl refl)) _ refl options plain _ (c.in_ok-matches.ensures options plain line) line.given (omega arith)

pub new-requires : goal.new-requires
new-requires c =
    let (options, plain, line) = c.requires in
    (number_within plain_row plain_names limit_option (inr (inl refl)) _ refl options line.given (omega arith) (omega arith) _
    (number_read plain_row plain_names limit_option (inr (inl refl)) _ refl options plain _ (c.in_ok-matches.ensures options plain line) c.number_of-limit.result c.number_of-limit.ensures)).1

pub returns : goal.returns
returns c =
    let (options, plain, line) = c.requires in
    let holds = c.in_ok-matches.ensures options plain line in (
      options,
      plain,
      line,
      (
        number_read plain_row plain_names flips_option (inl refl) _ refl options plain _ holds c.number_of-flips.result c.number_of-flips.ensures,
        subst (IsNumberOf limit_option options) (sym c.new.ensures)
            (number_read plain_row plain_names limit_option (inr (inl refl)) _ refl options plain _ holds c.number_of-limit.result c.number_of-limit.ensures),
        flag_read plain_row summary_option (inr (inr (inl refl))) refl options plain _ holds c.is_set-summary.result c.is_set-summary.ensures.given c.is_set-summary.ensures.not_given,
      ),
    )
