use Rattle.std.proofs.Common.{◌∙◌, List, sym, subst, refl}
use Rattle.std.proofs.lemmas.Bool.{false≢true}
use Rattle.hinge_form.specs.Triples.{of_place}
use Rattle.parabola_region.specs.declared.hinge_list.Hinge.{Hinge}
use Rattle.parabola_region.specs.HingeLists.{form_at, HasForms}
use Rattle.parabola_region.specs.Stretches.{HasPointFor, IsWideFor}
use Rattle.parabola_region.specs.WallLists.{plain_walls}
use Rattle.parabola_region.proofs.DifferentForms.{forms_among, point_among, wide_among, fault_among}
use Rattle.parabola_region.proofs.WallLists.{covered_before}
use Rattle.parabola_region.proofs.Owns.{forms_some, start_at, wide_start, wide_instance, region_fault}
use Rattle.parabola_region.proofs.Lines.{point_from_line}
use Rattle.parabola_region.proofs.wall_list.wall_of.Goals as goal

pub chord_point-requires : goal.chord_point-requires
chord_point-requires c = (c.requires.list.each c.args.i c.requires.inside).chord

pub returns-in-Err-clause-fault : goal.returns-in-Err-clause-fault
returns-in-Err-clause-fault c =
    wide_start c.args.f.now c.is_field.ensures c.args.tri.now.halves c.requires.valid c.args.forms.now c.requires.list c.args.i c.requires.inside
    c.in-Err.wide.formula c.in-Err.ensures.wide.0 c.in-Err.ensures.wide.1

pub has_point-requires-clause-line : goal.has_point-requires-clause-line
has_point-requires-clause-line c =
    forms_some c.args.f.now c.is_field.ensures c.args.tri.now.halves c.requires.valid c.args.forms.now c.requires.list c.args.i c.requires.inside

pub has_point-requires-clause-forms : goal.has_point-requires-clause-forms
has_point-requires-clause-forms c =
    subst HasForms (sym c.as_slice.ensures.value) (forms_among c.args.forms.now c.args.different.now.firsts.items c.args.different.now.places.items c.requires.different
    (forms_some c.args.f.now c.is_field.ensures c.args.tri.now.halves c.requires.valid c.args.forms.now c.requires.list))

pub has_point-requires-clause-start : goal.has_point-requires-clause-start
has_point-requires-clause-start c =
    start_at c.args.f.now c.is_field.ensures c.args.tri.now.halves c.requires.valid c.args.forms.now c.requires.list c.args.i c.requires.inside (of_place c.in-Ok.start) c.in-Ok.ensures.point

pub own_edges-requires-clause-line : goal.own_edges-requires-clause-line
own_edges-requires-clause-line c =
    forms_some c.args.f.now c.is_field.ensures c.args.tri.now.halves c.requires.valid c.args.forms.now c.requires.list c.args.i c.requires.inside

pub own_edges-requires-clause-forms : goal.own_edges-requires-clause-forms
own_edges-requires-clause-forms c =
    forms_among c.args.forms.now c.args.different.now.firsts.items c.args.different.now.places.items c.requires.different
    (forms_some c.args.f.now c.is_field.ensures c.args.tri.now.halves c.requires.valid c.args.forms.now c.requires.list)

pub own_edges-requires-clause-start : goal.own_edges-requires-clause-start
own_edges-requires-clause-start c =
    start_at c.args.f.now c.is_field.ensures c.args.tri.now.halves c.requires.valid c.args.forms.now c.requires.list c.args.i c.requires.inside (of_place c.in-Ok.start) c.in-Ok.ensures.point

pub returns-in-Err-own_edges-clause-fault : goal.returns-in-Err-own_edges-clause-fault
returns-in-Err-own_edges-clause-fault c =
    region_fault c.args.f.now c.is_field.ensures c.args.tri.now.halves c.requires.valid c.args.forms.now c.requires.list c.args.i c.requires.inside c.in-Err-own_edges.fault
    (fault_among c.args.forms.now c.args.different.now.firsts.items c.args.different.now.places.items c.requires.different c.args.f.now (form_at c.args.forms.now c.args.i) c.in-Err-own_edges.fault c.in-Err-own_edges.ensures.fault)

pub returns-then-stood_before-clause-found : goal.returns-then-stood_before-clause-found
returns-then-stood_before-clause-found c line =
    covered_before c.args.f.now c.is_field.ensures c.args.tri.now.halves c.requires.valid c.args.forms.now c.requires.list c.args.i (plain_walls c.args.walls.now) c.requires.before c.requires.inside
    (c.if-stood_before.ensures refl) line

pub returns-in-Ok-own_edges-clause-found : goal.returns-in-Ok-own_edges-clause-found
returns-in-Ok-own_edges-clause-found c = (
  (point_among c.args.forms.now c.args.different.now.firsts.items c.args.different.now.places.items c.requires.different c.args.f.now (form_at c.args.forms.now c.args.i)).0
      (subst (HasPointFor c.args.f.now (form_at c.args.forms.now c.args.i)) c.as_slice.ensures.value (c.in-Ok-true.ensures.point.0 c.in-Ok-true.field-0-test)),
  λ covered. false≢true (c.if-is_covered.ensures.1 covered),
  refl,
  c.in-Ok-own_edges.ensures.listing,
)

pub returns-in-Ok-false-clause-found : goal.returns-in-Ok-false-clause-found
returns-in-Ok-false-clause-found c line =
    absurd (false≢true (sym c.in-Ok-false.field-0-test ∙ c.in-Ok-false.ensures.point.1
    (subst (HasPointFor c.args.f.now (form_at c.args.forms.now c.args.i)) (sym c.as_slice.ensures.value)
    ((point_among c.args.forms.now c.args.different.now.firsts.items c.args.different.now.places.items c.requires.different c.args.f.now (form_at c.args.forms.now c.args.i)).1
    (point_from_line c.args.f.now c.is_field.ensures c.args.tri.now.halves c.requires.valid c.args.forms.now c.requires.list (form_at c.args.forms.now c.args.i) line)))))

pub returns-in-Err-has_point-clause-fault : goal.returns-in-Err-has_point-clause-fault
returns-in-Err-has_point-clause-fault c =
    wide_instance c.args.f.now c.is_field.ensures c.args.tri.now.halves c.requires.valid c.args.forms.now c.requires.list c.args.i c.requires.inside c.in-Err-has_point.wide.formula
    (wide_among c.args.forms.now c.args.different.now.firsts.items c.args.different.now.places.items c.requires.different c.args.f.now (form_at c.args.forms.now c.args.i) c.in-Err-has_point.wide.formula
    (subst (λ (xs : List Hinge). IsWideFor c.args.f.now (form_at c.args.forms.now c.args.i) xs c.in-Err-has_point.wide.formula) c.as_slice.ensures.value c.in-Err-has_point.ensures.wide))
