use Rattle.std.proofs.Common.{◌≡◌, ◌↔◌, true, false, length, subst, sym, IsTrue}
use Rattle.std.specs.Prelude.{◌==◌}
use Rattle.command_words.specs.Fronts.{EndsName}
use Rattle.command_words.proofs.GivenLemmas.{name_ended}
use Rattle.command_words.proofs.lines.ends_name.Goals as goal

pub returns-else-is_empty : goal.returns-else-is_empty
returns-else-is_empty c =
    let some : false ≡ (length c.args.tail.now == 0) = c.if-is_empty.ensures in
    subst (λ b. IsTrue b ↔ EndsName c.args.tail.now) (sym c.is_some.ensures)
    (name_ended c.args.tail.now c.after.result (λ e. let bad : false ≡ true = rw e at some in cc) c.after.ensures)
