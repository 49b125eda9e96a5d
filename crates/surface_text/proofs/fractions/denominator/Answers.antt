use Rattle.std.proofs.Common.{Some, codes}
use Rattle.std.proofs.lemmas.Bool.Decides.{Decides-eqb}
use Rattle.std.proofs.lemmas.Slice.Eq.{strip_prefix_is}
use Rattle.surface_text.proofs.Numbers.{denominator_large}
use Rattle.surface_text.proofs.fractions.denominator.Goals as goal

pub returns-in-Large : goal.returns-in-Large
returns-in-Large c =
    let head = strip_prefix_is Decides-eqb c.args.tail.now (codes "/") (Some c.in-Some.digits) c.in-Some.ensures.cases in
    denominator_large c.args.tail.now c.in-Some.digits.now head c.in-Large.ensures
