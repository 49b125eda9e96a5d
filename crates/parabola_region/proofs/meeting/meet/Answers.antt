use Rattle.std.proofs.Common.{sym, subst}
use mathlib.Core.Logic.{inl}
use Rattle.std.proofs.lemmas.Bool.{false≢true}
use Rattle.rings.proofs.Multiples.{opposite_not_multiple}
use Rattle.quad_field.specs.Quads.{quad_ops}
use Rattle.quad_field.proofs.CallerLemmas.{quad_ring, order_of}
use Rattle.hinge_form.specs.Triples.{of_form}
use Rattle.hinge_form.specs.Lines.{IsRelated, IsWideBetween}
use Rattle.parabola_region.proofs.Meetings.{some_is, none_is}
use Rattle.parabola_region.proofs.meeting.meet.Goals as goal

pub returns-in-Ok-Some-clause-meeting : goal.returns-in-Ok-Some-clause-meeting
returns-in-Ok-Some-clause-meeting c =
    c.bound_at.ensures (of_form c.args.line.now) (some_is _ _ c.in-Ok-Some.field-0 c.in-Ok-Some.at c.in-Ok-Some.field-0-is c.in-Ok-Some.ensures.point)

pub returns-in-Ok-Opposite-clause-meeting : goal.returns-in-Ok-Opposite-clause-meeting
returns-in-Ok-Opposite-clause-meeting c =
    let d = c.args.f.now in
    inl (
      none_is _ _ c.in-Ok-None.field-0 c.in-Ok-None.field-0-is c.in-Ok-None.ensures.point,
      opposite_not_multiple (quad_ops d) (quad_ring d) (order_of d c.is_field.ensures) (of_form c.args.line.now) (of_form c.args.form.now) c.requires.line
          (subst (IsRelated d (of_form c.args.line.now) (of_form c.args.form.now)) c.in-Ok-Opposite.field-0-is c.in-Ok-Opposite.ensures.relation),
    )

pub returns-in-Err-clause-wide : goal.returns-in-Err-clause-wide
returns-in-Err-clause-wide c =
    subst (IsWideBetween c.args.f.now (of_form c.args.line.now) (of_form c.args.form.now)) (sym c.in-Err.ensures.wide) (λ fits. false≢true (c.in-Err.ensures.fits.1 fits))
