use Rattle.std.proofs.Common.{◌≡◌, ◌∙◌, ap, ap₂, rules}
use Rattle.std.proofs.lemmas.Result.{IfOk-weaker}
use Rattle.clap.specs.Walk.{rule_of}
use Rattle.clap.specs.Simple.{with_rule}
use Rattle.command_words.specs.Parsers.{parser_with, values_rule}
use Rattle.command_words.proofs.ParserLemmas.{one_rule_more, all_rules}
use Rattle.command_words.proofs.parsing.parser_for.Goals as goal

pub loop-option-preserved : goal.loop-option-preserved
loop-option-preserved c =
    c.in_ok-parser.ensures.shape c.argument_for.ensures.local ∙ ap₂ with_rule c.loop-option.invariant c.argument_for.ensures.rule
    ∙ ap (parser_with c.args.row.now.word.now) (one_rule_more c.args.row.now.options.now c.loop-option.option-index _ c.loop-option-test.true)

pub returns : goal.returns
returns c =
    let values_is : rule_of c.action-values.result ≡ values_rule = search rules in
    IfOk-weaker c.arg-2.result _ _ (λ parser adds. adds.shape (search rules) ∙ ap₂ with_rule c.loop-option.invariant values_is
    ∙ ap (parser_with c.args.row.now.word.now) (all_rules c.args.row.now.options.now c.args.row.now.plain c.loop-option.option-index c.loop-option-test.false c.if-row-eq0.false)) c.arg-2.ensures
