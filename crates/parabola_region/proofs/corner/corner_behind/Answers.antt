use Rattle.std.proofs.Common.{sym, subst}
use mathlib.Core.Logic.{inr}
use Rattle.std.proofs.lemmas.Bool.{false≢true}
use Rattle.hinge_form.specs.Triples.{of_form, of_place}
use Rattle.parabola_region.specs.Spots.{IsWideCorner}
use Rattle.parabola_region.proofs.Meetings.{some_is, none_is}
use Rattle.parabola_region.proofs.Turned.{turned_apart, turned_forward, spot_result, corner_of_turned, wide_turned}
use Rattle.parabola_region.proofs.corner.corner_behind.Goals as goal

pub spot_at-requires : goal.spot_at-requires
spot_at-requires c =
    let point = some_is _ _ c.in-Ok-Some.field-0 c.in-Ok-Some.turned c.in-Ok-Some.field-0-is c.in-Ok-Some.ensures.point in
    record {
      forward = turned_forward c.args.f.now c.is_field.ensures (of_form c.args.one.now) (of_form c.args.two.now) c.args.forms.now (of_place c.args.at.now) c.requires.at c.requires.backward
          (of_place c.in-Ok-Some.turned) point;
    }

pub returns-in-Ok-Some-clause-corner : goal.returns-in-Ok-Some-clause-corner
returns-in-Ok-Some-clause-corner c =
    let point = some_is _ _ c.in-Ok-Some.field-0 c.in-Ok-Some.turned c.in-Ok-Some.field-0-is c.in-Ok-Some.ensures.point in
    let d = c.args.f.now in
    let l = of_form c.args.one.now in
    let k = of_form c.args.two.now in
    corner_of_turned d c.is_field.ensures l k c.args.forms.now c.spot_at.result
    (spot_result d c.is_field.ensures k l c.args.forms.now (of_place c.in-Ok-Some.turned) point
    (turned_forward d c.is_field.ensures l k c.args.forms.now (of_place c.args.at.now) c.requires.at c.requires.backward (of_place c.in-Ok-Some.turned) point)
    c.spot_at.result c.spot_at.ensures.spot)

pub returns-in-Ok-Some-clause-wide : goal.returns-in-Ok-Some-clause-wide
returns-in-Ok-Some-clause-wide c =
    wide_turned c.args.f.now c.is_field.ensures (of_form c.args.one.now) (of_form c.args.two.now) c.args.forms.now (of_place c.in-Ok-Some.turned)
    (some_is _ _ c.in-Ok-Some.field-0 c.in-Ok-Some.turned c.in-Ok-Some.field-0-is c.in-Ok-Some.ensures.point) c.spot_at.result c.spot_at.ensures.wide

pub returns-in-Ok-None-clause-corner : goal.returns-in-Ok-None-clause-corner
returns-in-Ok-None-clause-corner c =
    absurd (turned_apart c.args.f.now c.is_field.ensures (of_form c.args.one.now) (of_form c.args.two.now) c.requires.at.apart (none_is _ _ c.in-Ok-None.field-0 c.in-Ok-None.field-0-is c.in-Ok-None.ensures.point))

pub returns-in-Err-clause-wide : goal.returns-in-Err-clause-wide
returns-in-Err-clause-wide c =
    subst (IsWideCorner c.args.f.now (of_form c.args.one.now) (of_form c.args.two.now) c.args.forms.now) (sym c.in-Err.ensures.wide) (inr (λ fits. false≢true (c.in-Err.ensures.fits.1 fits)))
