use Rattle.std.proofs.Common.{sym, subst}
use mathlib.Core.Logic.{inl}
use Rattle.std.proofs.lemmas.Bool.{false≢true}
use Rattle.hinge_form.specs.Triples.{of_form, of_place}
use Rattle.parabola_region.specs.Spots.{IsWideCorner}
use Rattle.parabola_region.proofs.Meetings.{some_is}
use Rattle.parabola_region.proofs.Turned.{spot_result, spot_wide, neither_none}
use Rattle.parabola_region.proofs.corner.corner_of.Goals as goal

pub corner_behind-requires-clause-at : goal.corner_behind-requires-clause-at
corner_behind-requires-clause-at c = some_is _ _ c.in-Ok-Some.field-0 c.in-Ok-Some.at c.in-Ok-Some.field-0-is c.in-Ok-Some.ensures.point

pub returns-in-Forward-clause-corner : goal.returns-in-Forward-clause-corner
returns-in-Forward-clause-corner c =
    spot_result c.args.f.now c.is_field.ensures (of_form c.args.one.now) (of_form c.args.two.now) c.args.forms.now (of_place c.in-Ok-Some.at)
    (some_is _ _ c.in-Ok-Some.field-0 c.in-Ok-Some.at c.in-Ok-Some.field-0-is c.in-Ok-Some.ensures.point) c.in-Forward.ensures c.spot_at.result c.spot_at.ensures.spot

pub returns-in-Forward-clause-wide : goal.returns-in-Forward-clause-wide
returns-in-Forward-clause-wide c =
    spot_wide c.args.f.now c.is_field.ensures (of_form c.args.one.now) (of_form c.args.two.now) c.args.forms.now (of_place c.in-Ok-Some.at)
    (some_is _ _ c.in-Ok-Some.field-0 c.in-Ok-Some.at c.in-Ok-Some.field-0-is c.in-Ok-Some.ensures.point) c.in-Forward.ensures c.spot_at.result c.spot_at.ensures.wide

pub returns-in-Neither-clause-corner : goal.returns-in-Neither-clause-corner
returns-in-Neither-clause-corner c =
    neither_none c.args.f.now c.is_field.ensures (of_form c.args.one.now) (of_form c.args.two.now) c.args.forms.now (of_place c.in-Ok-Some.at)
    (some_is _ _ c.in-Ok-Some.field-0 c.in-Ok-Some.at c.in-Ok-Some.field-0-is c.in-Ok-Some.ensures.point) c.in-Neither.ensures.0 c.in-Neither.ensures.1

pub returns-in-Err-clause-wide : goal.returns-in-Err-clause-wide
returns-in-Err-clause-wide c =
    subst (IsWideCorner c.args.f.now (of_form c.args.one.now) (of_form c.args.two.now) c.args.forms.now) (sym c.in-Err.ensures.wide) (inl (λ fits. false≢true (c.in-Err.ensures.fits.1 fits)))
