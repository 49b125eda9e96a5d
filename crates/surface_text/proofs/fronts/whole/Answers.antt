use Rattle.std.proofs.Common.{Some, None, codes}
use Rattle.std.proofs.lemmas.Bool.Decides.{Decides-eqb}
use Rattle.std.proofs.lemmas.Slice.Eq.{strip_prefix_is}
use Rattle.surface_text.proofs.Numbers.{whole_minus, whole_large}
use Rattle.surface_text.proofs.fronts.whole.Goals as goal

pub returns-in-Some : goal.returns-in-Some
returns-in-Some c =
    let head = strip_prefix_is Decides-eqb c.args.text.now (codes "-") (Some c.in-Some.digits) c.in-Some.ensures.cases in
    whole_minus c.args.text.now c.in-Some.digits.now _ head c.negative.ensures

pub returns-in-Large : goal.returns-in-Large
returns-in-Large c =
    let none = strip_prefix_is Decides-eqb c.args.text.now (codes "-") None c.in_default.ensures.cases in
    whole_large _ none c.in-Large.ensures
