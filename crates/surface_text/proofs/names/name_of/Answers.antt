use Rattle.std.proofs.Common.{Some, codes}
use Rattle.std.proofs.lemmas.Bool.Decides.{Decides-eqb}
use Rattle.std.proofs.lemmas.Slice.Eq.{strip_prefix_is}
use Rattle.surface_text.proofs.Parts.{spelled}
use Rattle.surface_text.proofs.Dots.{Is, Within, name_value, name_not_first, name_not_second, name_large_first, name_large_second}
use Rattle.surface_text.proofs.names.name_of.Goals as goal

pub returns-in-Value-Value : goal.returns-in-Value-Value
returns-in-Value-Value c =
    let head = strip_prefix_is Decides-eqb c.front.result.1.now (codes ".") (Some c.in-Some.e) c.in-Some.ensures.cases in
    name_value c.in-Some.e.now c.front.ensures head _ c.in-Value-Value.ensures c.in-Value-Value.ensures'

pub returns-in_default-2 : goal.returns-in_default-2
returns-in_default-2 c =
    let head = strip_prefix_is Decides-eqb c.front.result.1.now (codes ".") (Some c.in-Some.e) c.in-Some.ensures.cases in
    let one = c.in_default-2.ensures in
    name_large_second c.in-Some.e.now c.front.ensures head c.in_default-2.field-0-0 one.found c.in_default-2.ensures'

pub returns-in_default-2-2 : goal.returns-in_default-2-2
returns-in_default-2-2 c =
    let head = strip_prefix_is Decides-eqb c.front.result.1.now (codes ".") (Some c.in-Some.e) c.in-Some.ensures.cases in
    let one = rw c.in_default-2.is-0 at c.natural.ensures in
    let two = spelled (Is c.in-Some.e.now) Within c.natural-2.result c.natural-2.ensures c.in_default-2.not-Not-1 in
    name_large_first c.in-Some.e.now c.front.ensures head two.0 one two.1

pub returns-in-Not-default : goal.returns-in-Not-default
returns-in-Not-default c =
    let head = strip_prefix_is Decides-eqb c.front.result.1.now (codes ".") (Some c.in-Some.e) c.in-Some.ensures.cases in
    name_not_first c.in-Some.e.now c.front.ensures head (rw c.in-Not-default.is-0 at c.natural.ensures)

pub returns-in-Not-default-2 : goal.returns-in-Not-default-2
returns-in-Not-default-2 c =
    let head = strip_prefix_is Decides-eqb c.front.result.1.now (codes ".") (Some c.in-Some.e) c.in-Some.ensures.cases in
    name_not_second c.in-Some.e.now c.front.ensures head (rw c.in-Not-default.is-1 at c.natural-2.ensures)

pub returns-in-Not-default-3 : goal.returns-in-Not-default-3
returns-in-Not-default-3 c =
    let head = strip_prefix_is Decides-eqb c.front.result.1.now (codes ".") (Some c.in-Some.e) c.in-Some.ensures.cases in
    name_not_second c.in-Some.e.now c.front.ensures head (rw c.in-Not-default.is-1 at c.natural-2.ensures)
