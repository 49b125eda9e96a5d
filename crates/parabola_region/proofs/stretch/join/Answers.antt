use Rattle.std.proofs.Common.{sym, subst}
use Rattle.rings.specs.Forms.{value_at}
use Rattle.quad_field.specs.Quads.{quad_ops, IsSign}
use Rattle.hinge_form.specs.Triples.{Triple, of_form, of_place}
use Rattle.hinge_form.specs.Hinges.{PlaceFits}
use Rattle.parabola_region.specs.Stretches.{IsWideFor, bound_point}
use Rattle.parabola_region.proofs.Signs.{unequal, equal}
use Rattle.parabola_region.proofs.Stretches.{join_empty, join_past, join_zero, join_before}
use Rattle.parabola_region.proofs.stretch.join.Goals as goal

pub returns-then-old-new-clause-stretch : goal.returns-then-old-new-clause-stretch
returns-then-old-new-clause-stretch c =
    join_empty c.args.f.now c.is_field.ensures (of_form c.args.line.now) c.requires.line c.args.forms.now (of_place c.args.start.now) c.requires.start c.args.i c.args.old.now c.requires.old
    c.requires.inside c.args.new.now c.requires.new.0 c.requires.new.1 (unequal c.args.old.now.falls c.args.new.now.falls c.if-old-new.true)

pub returns-in-Ok-Minus-clause-stretch : goal.returns-in-Ok-Minus-clause-stretch
returns-in-Ok-Minus-clause-stretch c =
    join_past c.args.f.now c.is_field.ensures (of_form c.args.line.now) c.requires.line c.args.forms.now (of_place c.args.start.now) c.requires.start c.args.i c.args.old.now c.requires.old
    c.requires.inside c.args.new.now c.requires.new.0 c.requires.new.1 (equal c.args.old.now.falls c.args.new.now.falls c.if-old-new.false)
    (subst (IsSign c.args.f.now (value_at (quad_ops c.args.f.now) (of_form c.args.new.now.form) (bound_point c.args.f.now c.args.old.now))) c.in-Ok-Minus.field-0-is c.in-Ok-Minus.ensures.sign)

pub returns-in-Ok-Zero-clause-stretch : goal.returns-in-Ok-Zero-clause-stretch
returns-in-Ok-Zero-clause-stretch c =
    join_zero c.args.f.now c.is_field.ensures (of_form c.args.line.now) c.requires.line c.args.forms.now (of_place c.args.start.now) c.requires.start c.args.i c.args.old.now c.requires.old
    c.requires.inside c.args.new.now c.requires.new.0 c.requires.new.1 (equal c.args.old.now.falls c.args.new.now.falls c.if-old-new.false)
    (subst (IsSign c.args.f.now (value_at (quad_ops c.args.f.now) (of_form c.args.new.now.form) (bound_point c.args.f.now c.args.old.now))) c.in-Ok-Zero.field-0-is c.in-Ok-Zero.ensures.sign)

pub returns-in-Ok-Plus-clause-stretch : goal.returns-in-Ok-Plus-clause-stretch
returns-in-Ok-Plus-clause-stretch c =
    join_before c.args.f.now c.is_field.ensures (of_form c.args.line.now) c.requires.line c.args.forms.now (of_place c.args.start.now) c.requires.start c.args.i c.args.old.now c.requires.old
    c.requires.inside c.args.new.now c.requires.new.0 c.requires.new.1 (equal c.args.old.now.falls c.args.new.now.falls c.if-old-new.false)
    (subst (IsSign c.args.f.now (value_at (quad_ops c.args.f.now) (of_form c.args.new.now.form) (bound_point c.args.f.now c.args.old.now))) c.in-Ok-Plus.field-0-is c.in-Ok-Plus.ensures.sign)

pub returns-in-Err-clause-wide : goal.returns-in-Err-clause-wide
returns-in-Err-clause-wide c =
    subst (IsWideFor c.args.f.now (of_form c.args.line.now) c.args.forms.now) (sym c.in-Err.ensures.wide.0) (
      c.requires.old.number,
      c.args.i,
      c.requires.old.inside,
      c.requires.inside,
      (
        of_place c.args.old.now.at,
        c.requires.old.bound_of.crossing,
        subst (λ (k : Triple). ¬ (PlaceFits c.args.f.now k (of_place c.args.old.now.at))) c.requires.new.0.form c.in-Err.ensures.wide.1,
      ),
    )
