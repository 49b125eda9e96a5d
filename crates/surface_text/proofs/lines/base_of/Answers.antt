use Rattle.std.proofs.Common.{Some, None, codes, arith}
use Rattle.std.proofs.lemmas.Bool.Decides.{Decides-eqb}
use Rattle.std.proofs.lemmas.Slice.Eq.{strip_prefix_is}
use Rattle.surface_text.specs.declared.fronts.Reading.TheVariants as reading
use Rattle.surface_text.proofs.Tails.{tail_point, no_point}
use Rattle.surface_text.proofs.lines.base_of.Goals as goal

pub returns-in_default : goal.returns-in_default
returns-in_default c =
    no_point c.args.tail.now (strip_prefix_is Decides-eqb c.args.tail.now (codes " ") None c.in_default.ensures.cases)

pub returns-in-Not : goal.returns-in-Not
returns-in-Not c =
    let head = strip_prefix_is Decides-eqb c.args.tail.now (codes " ") (Some c.in-Some.text) c.in-Some.ensures.cases in
    tail_point c.args.tail.now c.in-Some.text.now head reading.Not c.in-Not.ensures

pub returns-in-Large : goal.returns-in-Large
returns-in-Large c =
    let head = strip_prefix_is Decides-eqb c.args.tail.now (codes " ") (Some c.in-Some.text) c.in-Some.ensures.cases in
    tail_point c.args.tail.now c.in-Some.text.now head reading.Large c.in-Large.ensures

pub returns-in-Value : goal.returns-in-Value
returns-in-Value c =
    let head = strip_prefix_is Decides-eqb c.args.tail.now (codes " ") (Some c.in-Some.text) c.in-Some.ensures.cases in
    let one = tail_point c.args.tail.now c.in-Some.text.now head (reading.Value c.in-Value.at) c.in-Value.ensures in
    (c.in-Value.at, one, λ above. let yes = c.is_above.ensures.1 above in absurd cc)

pub returns-in-Value-2 : goal.returns-in-Value-2
returns-in-Value-2 c =
    let head = strip_prefix_is Decides-eqb c.args.tail.now (codes " ") (Some c.in-Some.text) c.in-Some.ensures.cases in
    let one = tail_point c.args.tail.now c.in-Some.text.now head (reading.Value c.in-Value.at) c.in-Value.ensures in
    (c.in-Value.at, one, c.is_above.ensures.0 c.if-not-is_above.false, omega arith)

pub returns-in-Value-3 : goal.returns-in-Value-3
returns-in-Value-3 c =
    let head = strip_prefix_is Decides-eqb c.args.tail.now (codes " ") (Some c.in-Some.text) c.in-Some.ensures.cases in
    let one = tail_point c.args.tail.now c.in-Some.text.now head (reading.Value c.in-Value.at) c.in-Value.ensures in
    (one, c.is_above.ensures.0 c.if-not-is_above.false, omega arith)
