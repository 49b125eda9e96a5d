use Rattle.std.proofs.Common.{to_z, of_z, w64}
use Rattle.surface_text.specs.Limits.{IsBounded}
use Rattle.surface_text.specs.Readings.{IsDenominator}
use Rattle.surface_text.proofs.Parabola.{bounded_kept}
use Rattle.surface_text.proofs.Parts.{spelled, fraction_value, fraction_not_first, fraction_not_second, fraction_not_lowest, fraction_large_first, fraction_large_second}
use Rattle.surface_text.proofs.fractions.fraction_of.Goals as goal

pub returns-in-Value-Value : goal.returns-in-Value-Value
returns-in-Value-Value c =
    let one = c.in-Value-Value.ensures in
    let two = c.in-Value-Value.ensures' in
    fraction_value c.front.ensures c.in-Value-Value.n c.in-Value-Value.d _
    (bounded_kept c.in-Value-Value.n one.fits) (bounded_kept c.in-Value-Value.d two.fits) one two (c.is_lowest.ensures.0 c.if-is_lowest.true)

pub returns-in-Value-Value-2 : goal.returns-in-Value-Value-2
returns-in-Value-Value-2 c =
    let one = c.in-Value-Value.ensures in
    let two = c.in-Value-Value.ensures' in
    fraction_not_lowest c.front.ensures c.in-Value-Value.n c.in-Value-Value.d
    (to_z w64 (of_z w64 c.in-Value-Value.n)) (to_z w64 (of_z w64 c.in-Value-Value.d))
    (bounded_kept c.in-Value-Value.n one.fits) (bounded_kept c.in-Value-Value.d two.fits) one two
    (λ low. let yes = c.is_lowest.ensures.1 low in absurd cc)

pub returns-in_default : goal.returns-in_default
returns-in_default c =
    let one = c.in_default.ensures in
    fraction_large_second c.front.ensures c.in_default.field-0-0 one.found c.in_default.ensures'

pub returns-in_default-2 : goal.returns-in_default-2
returns-in_default-2 c =
    let one = rw c.in_default.is-0 at c.whole.ensures in
    let two = spelled (IsDenominator c.front.result.1.now) IsBounded c.denominator.result c.denominator.ensures c.in_default.not-Not-1 in
    fraction_large_first c.front.ensures two.0 one two.1

pub returns-in-Not-default : goal.returns-in-Not-default
returns-in-Not-default c = fraction_not_first c.front.ensures (rw c.in-Not-default.is-0 at c.whole.ensures)

pub returns-in-Not-default-2 : goal.returns-in-Not-default-2
returns-in-Not-default-2 c = fraction_not_second c.front.ensures (rw c.in-Not-default.is-1 at c.denominator.ensures)

pub returns-in-Not-default-3 : goal.returns-in-Not-default-3
returns-in-Not-default-3 c = fraction_not_second c.front.ensures (rw c.in-Not-default.is-1 at c.denominator.ensures)
