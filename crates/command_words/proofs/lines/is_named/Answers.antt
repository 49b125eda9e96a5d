use Rattle.std.proofs.Common.{refl, subst}
use Rattle.command_words.specs.Fronts.{NamesOption}
use Rattle.command_words.proofs.LineLemmas.{named_here}
use Rattle.command_words.proofs.lines.is_named.Goals as goal

pub returns-then-names_option : goal.returns-then-names_option
returns-then-names_option c = (
  λ _. named_here c.args.name.now c.args.words.now c.loop-word.word-index c.word-item.result c.loop-word-test.true c.word-item.is
      (subst (NamesOption c.args.name.now) c.as_str.ensures.value (c.names_option.ensures.0 c.if-names_option.true)),
  λ _. refl,
)
