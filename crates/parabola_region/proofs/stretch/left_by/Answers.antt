use Rattle.std.proofs.Common.{◌∙◌, sym, subst}
use mathlib.Core.Logic.{inr}
use Rattle.std.proofs.lemmas.Bool.{false≢true}
use Rattle.hinge_form.specs.Triples.{of_form, of_place}
use Rattle.parabola_region.specs.Stretches.{IsMeeting}
use Rattle.parabola_region.proofs.Stretches.{never_at, inside, on}
use Rattle.parabola_region.proofs.stretch.left_by.Goals as goal

pub returns-in-Ok-true-clause-left : goal.returns-in-Ok-true-clause-left
returns-in-Ok-true-clause-left c = inr (c.in-Ok-true.ensures.positive.0 c.in-Ok-true.field-0-test)

pub returns-in-Ok-Never-clause-left : goal.returns-in-Ok-Never-clause-left
returns-in-Ok-Never-clause-left c =
    let d = c.args.f.now in
    let l = of_form c.args.line.now in
    let start = of_place c.args.start.now in
    never_at d c.is_field.ensures l c.requires.line c.args.forms.now c.args.i c.requires.inside
    (subst (IsMeeting d l _) c.in-Ok-Never.field-0-is c.in-Ok-Never.ensures.meeting)
    start (on d c.is_field.ensures l c.requires.line c.args.forms.now start c.requires.start) (inside d c.is_field.ensures l c.requires.line c.args.forms.now start c.requires.start).0
    (λ p. false≢true (sym c.in-Ok-false.field-0-test ∙ c.in-Ok-false.ensures.positive.1 p))
