use Rattle.std.proofs.Common.{refl, subst, length}
use Rattle.hinge_form.specs.Triples.{of_form, of_place}
use Rattle.parabola_region.specs.Stretches.{IsStretch}
use Rattle.parabola_region.proofs.Stretches.{point_at_start}
use Rattle.parabola_region.proofs.stretch.has_point.Goals as goal

pub returns-in-Whole-clause-point : goal.returns-in-Whole-clause-point
returns-in-Whole-clause-point c = (
  λ t. point_at_start c.args.f.now c.is_field.ensures (of_form c.args.line.now) c.requires.line c.args.forms.now (of_place c.args.start.now) c.requires.start
      (subst (IsStretch c.args.f.now (of_form c.args.line.now) (of_place c.args.start.now) c.args.forms.now (length c.args.forms.now)) c.in-Whole.is c.in_ok-stretch_of.ensures.stretch),
  λ h. refl,
)
