use Rattle.std.proofs.Common.{◌≡◌, true, false, length, map, string_bytes, subst, sym, MatchOption}
use Rattle.std.specs.Prelude.{◌==◌}
use Rattle.command_words.specs.Fronts.{GivesValue, GivesNoValue}
use Rattle.command_words.proofs.FrontLemmas.{joined_value}
use Rattle.command_words.proofs.fronts.value_words.Goals as goal

pub returns-in-Some-2 : goal.returns-in-Some-2
returns-in-Some-2 c =
    let others = map string_bytes c.args.others.now in
    let some : false ≡ (length c.args.tail.now == 0) = c.if-is_empty-2.ensures in
    subst (λ n. MatchOption c.joined_words.result (GivesNoValue n c.args.tail.now others) (GivesValue n c.args.tail.now others)) (sym c.in-Some-2.is)
    (joined_value c.in-Some-2.numbers c.args.tail.now others c.joined_words.result (λ e. let bad : false ≡ true = rw e at some in cc) c.joined_words.ensures)
