use Rattle.std.proofs.Common.{sym, subst}
use Rattle.rings.specs.Forms.{value_at}
use Rattle.quad_field.specs.Quads.{quad_ops, IsSign}
use Rattle.hinge_form.specs.Triples.{of_form, of_place}
use Rattle.parabola_region.specs.HingeLists.{form_at}
use Rattle.parabola_region.specs.Stretches.{IsWideFor, IsMeeting, bound_point}
use Rattle.parabola_region.proofs.Stretches.{behind_plus, behind_minus, behind_never, behind_at}
use Rattle.parabola_region.proofs.stretch.is_behind.Goals as goal

pub returns-in-Ok-Plus-clause-behind : goal.returns-in-Ok-Plus-clause-behind
returns-in-Ok-Plus-clause-behind c =
    let d = c.args.f.now in
    behind_plus d c.is_field.ensures (of_form c.args.line.now) c.requires.line c.args.forms.now (of_place c.args.start.now) c.requires.start c.args.bound.now c.requires.bound c.args.i c.requires.inside
    (subst (IsSign d (value_at (quad_ops d) (form_at c.args.forms.now c.args.i) (bound_point d c.args.bound.now))) c.in-Ok-Plus.field-0-is c.in-Ok-Plus.ensures.sign)

pub returns-in-Ok-Minus-clause-behind : goal.returns-in-Ok-Minus-clause-behind
returns-in-Ok-Minus-clause-behind c =
    let d = c.args.f.now in
    behind_minus d c.is_field.ensures (of_form c.args.line.now) c.requires.line c.args.forms.now (of_place c.args.start.now) c.requires.start c.args.bound.now c.requires.bound c.args.i c.requires.inside
    (subst (IsSign d (value_at (quad_ops d) (form_at c.args.forms.now c.args.i) (bound_point d c.args.bound.now))) c.in-Ok-Minus.field-0-is c.in-Ok-Minus.ensures.sign)

pub returns-in-Ok-Never-clause-behind : goal.returns-in-Ok-Never-clause-behind
returns-in-Ok-Never-clause-behind c =
    let d = c.args.f.now in
    behind_never d c.is_field.ensures (of_form c.args.line.now) c.requires.line c.args.forms.now (of_place c.args.start.now) c.requires.start c.args.bound.now c.requires.bound c.args.i c.requires.inside
    (subst (IsSign d (value_at (quad_ops d) (form_at c.args.forms.now c.args.i) (bound_point d c.args.bound.now))) c.in-Ok-Zero.field-0-is c.in-Ok-Zero.ensures.sign)
    (subst (IsMeeting d (of_form c.args.line.now) (form_at c.args.forms.now c.args.i)) c.in-Ok-Never.field-0-is c.in-Ok-Never.ensures.meeting)

pub returns-in-Ok-At-clause-behind : goal.returns-in-Ok-At-clause-behind
returns-in-Ok-At-clause-behind c =
    let d = c.args.f.now in
    behind_at d c.is_field.ensures (of_form c.args.line.now) c.requires.line c.args.forms.now (of_place c.args.start.now) c.requires.start c.args.bound.now c.requires.bound c.args.i c.requires.inside
    c.in-Ok-At.other
    (subst (IsMeeting d (of_form c.args.line.now) (form_at c.args.forms.now c.args.i)) c.in-Ok-At.field-0-is c.in-Ok-At.ensures.meeting)
    (subst (IsSign d (value_at (quad_ops d) (form_at c.args.forms.now c.args.i) (bound_point d c.args.bound.now))) c.in-Ok-Zero.field-0-is c.in-Ok-Zero.ensures.sign)

pub returns-in-Err-clause-wide : goal.returns-in-Err-clause-wide
returns-in-Err-clause-wide c =
    subst (IsWideFor c.args.f.now (of_form c.args.line.now) c.args.forms.now) (sym c.in-Err.ensures.wide.0) (
      c.requires.bound.number,
      c.args.i,
      c.requires.bound.inside,
      c.requires.inside,
      (of_place c.args.bound.now.at, c.requires.bound.bound_of.crossing, c.in-Err.ensures.wide.1),
    )
