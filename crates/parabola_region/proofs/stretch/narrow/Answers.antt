use Rattle.std.proofs.Common.{subst}
use Rattle.hinge_form.specs.Triples.{of_form, of_place}
use Rattle.parabola_region.specs.Stretches.{IsStretch, IsLeftBy}
use Rattle.parabola_region.proofs.Stretches.{whole_fine, whole_from, behind_fine}
use Rattle.parabola_region.proofs.stretch.narrow.Goals as goal

pub returns-in-Ok-Whole-clause-stretch : goal.returns-in-Ok-Whole-clause-stretch
returns-in-Ok-Whole-clause-stretch c =
    let d = c.args.f.now in
    let l = of_form c.args.line.now in
    let start = of_place c.args.start.now in
    whole_fine d c.is_field.ensures l c.requires.line c.args.forms.now start c.requires.start c.args.i
    (subst (IsStretch d l start c.args.forms.now c.args.i) c.in-Whole.is c.requires.before)
    (subst (IsLeftBy d l start c.args.forms.now c.args.i) c.in-Ok-Whole.field-0-is c.in-Ok-Whole.ensures.left)

pub returns-in-Ok-Behind-clause-stretch : goal.returns-in-Ok-Behind-clause-stretch
returns-in-Ok-Behind-clause-stretch c =
    let d = c.args.f.now in
    let l = of_form c.args.line.now in
    let start = of_place c.args.start.now in
    let seen = subst (IsLeftBy d l start c.args.forms.now c.args.i) c.in-Ok-Behind.field-0-is c.in-Ok-Behind.ensures.left in
    whole_from d c.is_field.ensures l c.requires.line c.args.forms.now start c.requires.start c.args.i c.requires.inside
    (subst (IsStretch d l start c.args.forms.now c.args.i) c.in-Whole.is c.requires.before)
    c.in-Ok-Behind.bound seen.0 seen.1

pub returns-in-Ok-Whole-left_by-clause-stretch : goal.returns-in-Ok-Whole-left_by-clause-stretch
returns-in-Ok-Whole-left_by-clause-stretch c =
    let d = c.args.f.now in
    let l = of_form c.args.line.now in
    let start = of_place c.args.start.now in
    behind_fine d c.is_field.ensures l c.requires.line c.args.forms.now start c.requires.start c.args.i c.in-Behind.old
    (subst (IsStretch d l start c.args.forms.now c.args.i) c.in-Behind.is c.requires.before)
    (subst (IsLeftBy d l start c.args.forms.now c.args.i) c.in-Ok-Whole-left_by.field-0-is c.in-Ok-Whole-left_by.ensures.left)
