use Rattle.std.proofs.Common.{Some, None, codes}
use Rattle.std.proofs.lemmas.Bool.Decides.{Decides-eqb}
use Rattle.std.proofs.lemmas.Slice.Eq.{strip_prefix_is}
use Rattle.surface_text.specs.Names.{IsNameOf, IsBoundedName}
use Rattle.surface_text.proofs.Parts.{spelled}
use Rattle.surface_text.proofs.Pairs.{glue_value, glue_not_first, glue_not_second, glue_large_first, glue_large_second, glue_one_word}
use Rattle.surface_text.proofs.lines.names_of.Goals as goal

pub returns-in_default-strip_prefix : goal.returns-in_default-strip_prefix
returns-in_default-strip_prefix c =
    let head = strip_prefix_is Decides-eqb c.args.tail.now (codes " ") (Some c.in-Some.text) c.in-Some.ensures.cases in
    let none = strip_prefix_is Decides-eqb c.front.result.1.now (codes " ") None c.in_default-strip_prefix.ensures.cases in
    glue_one_word head c.front.ensures none

pub returns-in-Value-Value : goal.returns-in-Value-Value
returns-in-Value-Value c =
    let head = strip_prefix_is Decides-eqb c.args.tail.now (codes " ") (Some c.in-Some.text) c.in-Some.ensures.cases in
    let space = strip_prefix_is Decides-eqb c.front.result.1.now (codes " ") (Some c.in-Some-strip_prefix.second) c.in-Some-strip_prefix.ensures.cases in
    glue_value c.in-Some-strip_prefix.second.now head c.front.ensures space _ c.in-Value-Value.ensures c.in-Value-Value.ensures'

pub returns-in_default-2 : goal.returns-in_default-2
returns-in_default-2 c =
    let head = strip_prefix_is Decides-eqb c.args.tail.now (codes " ") (Some c.in-Some.text) c.in-Some.ensures.cases in
    let space = strip_prefix_is Decides-eqb c.front.result.1.now (codes " ") (Some c.in-Some-strip_prefix.second) c.in-Some-strip_prefix.ensures.cases in
    let one = c.in_default-2.ensures in
    glue_large_second c.in-Some-strip_prefix.second.now head c.front.ensures space c.in_default-2.field-0-0 one.found c.in_default-2.ensures'

pub returns-in_default-2-2 : goal.returns-in_default-2-2
returns-in_default-2-2 c =
    let head = strip_prefix_is Decides-eqb c.args.tail.now (codes " ") (Some c.in-Some.text) c.in-Some.ensures.cases in
    let space = strip_prefix_is Decides-eqb c.front.result.1.now (codes " ") (Some c.in-Some-strip_prefix.second) c.in-Some-strip_prefix.ensures.cases in
    let one = rw c.in_default-2.is-0 at c.name_of.ensures in
    let two = spelled (IsNameOf c.in-Some-strip_prefix.second.now) IsBoundedName c.name_of-2.result c.name_of-2.ensures c.in_default-2.not-Not-1 in
    glue_large_first c.in-Some-strip_prefix.second.now head c.front.ensures space two.0 one two.1

pub returns-in-Not-default : goal.returns-in-Not-default
returns-in-Not-default c =
    let head = strip_prefix_is Decides-eqb c.args.tail.now (codes " ") (Some c.in-Some.text) c.in-Some.ensures.cases in
    let space = strip_prefix_is Decides-eqb c.front.result.1.now (codes " ") (Some c.in-Some-strip_prefix.second) c.in-Some-strip_prefix.ensures.cases in
    glue_not_first c.in-Some-strip_prefix.second.now head c.front.ensures space (rw c.in-Not-default.is-0 at c.name_of.ensures)

pub returns-in-Not-default-2 : goal.returns-in-Not-default-2
returns-in-Not-default-2 c =
    let head = strip_prefix_is Decides-eqb c.args.tail.now (codes " ") (Some c.in-Some.text) c.in-Some.ensures.cases in
    let space = strip_prefix_is Decides-eqb c.front.result.1.now (codes " ") (Some c.in-Some-strip_prefix.second) c.in-Some-strip_prefix.ensures.cases in
    glue_not_second c.in-Some-strip_prefix.second.now head c.front.ensures space (rw c.in-Not-default.is-1 at c.name_of-2.ensures)

pub returns-in-Not-default-3 : goal.returns-in-Not-default-3
returns-in-Not-default-3 c =
    let head = strip_prefix_is Decides-eqb c.args.tail.now (codes " ") (Some c.in-Some.text) c.in-Some.ensures.cases in
    let space = strip_prefix_is Decides-eqb c.front.result.1.now (codes " ") (Some c.in-Some-strip_prefix.second) c.in-Some-strip_prefix.ensures.cases in
    glue_not_second c.in-Some-strip_prefix.second.now head c.front.ensures space (rw c.in-Not-default.is-1 at c.name_of-2.ensures)
