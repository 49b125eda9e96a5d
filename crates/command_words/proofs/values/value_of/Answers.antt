use Rattle.std.proofs.Common.{◌∙◌, sym}
use Rattle.clap.specs.Matches.{found_of}
use Rattle.plane.proofs.CallerLemmas.{natural_text_injective}
use Rattle.command_words.proofs.ValueLemmas.{first_held, some_text, none_text}
use Rattle.command_words.proofs.values.value_of.Goals as goal

pub number_in-requires : goal.number_in-requires
number_in-requires c =
    let (n, small, holds) = c.requires in
    (n, some_text _ _ (c.in-Some.ensures ∙ first_held n (found_of c.args.matches.now) holds), small)

pub unreachable-requires : goal.unreachable-requires
unreachable-requires c =
    let (n, small, holds) = c.requires in
    absurd (none_text _ (c.in-None.ensures ∙ first_held n (found_of c.args.matches.now) holds))

pub returns : goal.returns
returns c = λ n holds.
    natural_text_injective c.number_in.result n
    (sym c.number_in.ensures ∙ some_text _ _ (c.in-Some.ensures ∙ first_held n (found_of c.args.matches.now) holds))
