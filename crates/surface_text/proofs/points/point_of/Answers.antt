use Rattle.std.proofs.Common.{Some, codes}
use Rattle.std.proofs.lemmas.Bool.Decides.{Decides-eqb}
use Rattle.std.proofs.lemmas.Slice.Eq.{strip_prefix_is}
use Rattle.surface_text.specs.Readings.{IsFractionOf, IsBoundedFraction}
use Rattle.surface_text.proofs.Parabola.{bounded_kept}
use Rattle.surface_text.proofs.Parts.{spelled, point_value, point_not_first, point_not_second, point_large_first, point_large_second}
use Rattle.surface_text.proofs.points.point_of.Goals as goal

pub returns-in-Value-Value : goal.returns-in-Value-Value
returns-in-Value-Value c =
    let head = strip_prefix_is Decides-eqb c.front.result.1.now (codes " ") (Some c.in-Some.y) c.in-Some.ensures.cases in
    let one = c.in-Value-Value.ensures in
    let two = c.in-Value-Value.ensures' in
    let x = one.fits in
    let y = two.fits in
    point_value c.in-Some.y.now c.front.ensures head c.in-Value-Value.x c.in-Value-Value.y _
    (bounded_kept c.in-Value-Value.x.n x.0) (bounded_kept c.in-Value-Value.x.d x.1)
    (bounded_kept c.in-Value-Value.y.n y.0) (bounded_kept c.in-Value-Value.y.d y.1) one two

pub returns-in_default-2 : goal.returns-in_default-2
returns-in_default-2 c =
    let head = strip_prefix_is Decides-eqb c.front.result.1.now (codes " ") (Some c.in-Some.y) c.in-Some.ensures.cases in
    let one = c.in_default-2.ensures in
    point_large_second c.in-Some.y.now c.front.ensures head c.in_default-2.field-0-0 one.found c.in_default-2.ensures'

pub returns-in_default-2-2 : goal.returns-in_default-2-2
returns-in_default-2-2 c =
    let head = strip_prefix_is Decides-eqb c.front.result.1.now (codes " ") (Some c.in-Some.y) c.in-Some.ensures.cases in
    let one = rw c.in_default-2.is-0 at c.fraction_of.ensures in
    let two = spelled (IsFractionOf c.in-Some.y.now) IsBoundedFraction c.fraction_of-2.result c.fraction_of-2.ensures c.in_default-2.not-Not-1 in
    point_large_first c.in-Some.y.now c.front.ensures head two.0 one two.1

pub returns-in-Not-default : goal.returns-in-Not-default
returns-in-Not-default c =
    let head = strip_prefix_is Decides-eqb c.front.result.1.now (codes " ") (Some c.in-Some.y) c.in-Some.ensures.cases in
    point_not_first c.in-Some.y.now c.front.ensures head (rw c.in-Not-default.is-0 at c.fraction_of.ensures)

pub returns-in-Not-default-2 : goal.returns-in-Not-default-2
returns-in-Not-default-2 c =
    let head = strip_prefix_is Decides-eqb c.front.result.1.now (codes " ") (Some c.in-Some.y) c.in-Some.ensures.cases in
    point_not_second c.in-Some.y.now c.front.ensures head (rw c.in-Not-default.is-1 at c.fraction_of-2.ensures)

pub returns-in-Not-default-3 : goal.returns-in-Not-default-3
returns-in-Not-default-3 c =
    let head = strip_prefix_is Decides-eqb c.front.result.1.now (codes " ") (Some c.in-Some.y) c.in-Some.ensures.cases in
    point_not_second c.in-Some.y.now c.front.ensures head (rw c.in-Not-default.is-1 at c.fraction_of-2.ensures)
