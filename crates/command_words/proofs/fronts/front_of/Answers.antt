use Rattle.std.proofs.Common.{map, string_bytes}
use Rattle.command_words.proofs.FrontLemmas.{one_found}
use Rattle.command_words.proofs.fronts.front_of.Goals as goal

pub returns-in-Some : goal.returns-in-Some
returns-in-Some c =
    one_found c.args.options.now (map string_bytes c.args.words.now) c.loop-option.option-index _ c.loop-option-test.true c.in-Some.words c.in-Some.ensures
