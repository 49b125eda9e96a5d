use Rattle.std.proofs.Common.{refl, subst, sym, arith, below_more}
use Rattle.std.proofs.lemmas.Bool.{false≢true}
use Rattle.rings.specs.Forms.{inner_value}
use Rattle.rings.proofs.Ordered.{not_both_signs}
use Rattle.rings.proofs.Signs.{never_positive}
use Rattle.quad_field.proofs.CallerLemmas.{quad_ring, order_of, zero_is}
use Rattle.rings.specs.Bounds.{IsBehind}
use Rattle.quad_field.specs.Quads.{quad_ops, IsPositive, IsSign}
use Rattle.hinge_form.specs.Triples.{of_form, of_place}
use Rattle.parabola_region.specs.HingeLists.{form_at}
use Rattle.parabola_region.specs.Stretches.{bound_point, IsBehindAt, IsWideFor}
use Rattle.parabola_region.proofs.Stretches.{point_by_inner}
use Rattle.parabola_region.proofs.stretch.has_point_behind.Goals as goal

pub loop-i-preserved : goal.loop-i-preserved
loop-i-preserved c =
    let d = c.args.f.now in
    below_more
    (λ k. IsBehind (quad_ops d) (IsPositive d) (of_form c.args.line.now) (of_form c.args.bound.now.form) (bound_point d c.args.bound.now) (form_at c.args.forms.now k)) c.loop-i.i
    c.loop-i.invariant
    (subst (IsBehindAt d (of_form c.args.line.now) c.args.forms.now c.args.bound.now c.loop-i.i) c.if-not-branch.false c.in_ok-is_behind.ensures.behind)

pub returns-in-Ok-Plus-clause-point : goal.returns-in-Ok-Plus-clause-point
returns-in-Ok-Plus-clause-point c =
    let d = c.args.f.now in
    let both = point_by_inner d c.is_field.ensures (of_form c.args.line.now) c.requires.line c.args.forms.now (of_place c.args.start.now) c.requires.start c.args.bound.now c.requires.bound
    (λ i under. c.loop-i.invariant i (omega (arith, c.loop-i-test.false))) in
    (λ t. both.0 (subst (IsSign d (inner_value (quad_ops d) (of_place c.args.bound.now.at))) c.in-Ok-Plus.field-0-is c.in-Ok-Plus.ensures.sign), λ h. refl)

pub returns-in-Ok-Zero-clause-point : goal.returns-in-Ok-Zero-clause-point
returns-in-Ok-Zero-clause-point c =
    let d = c.args.f.now in
    let both = point_by_inner d c.is_field.ensures (of_form c.args.line.now) c.requires.line c.args.forms.now (of_place c.args.start.now) c.requires.start c.args.bound.now c.requires.bound
    (λ i under. c.loop-i.invariant i (omega (arith, c.loop-i-test.false))) in
    let z = subst (IsSign d (inner_value (quad_ops d) (of_place c.args.bound.now.at))) c.in-Ok-Zero.field-0-is c.in-Ok-Zero.ensures.sign in
    (λ t. absurd (false≢true t), λ h. absurd (never_positive (quad_ops d) (quad_ring d) (order_of d c.is_field.ensures) _ (zero_is d _ z) (both.1 h)))

pub returns-in-Ok-Minus-clause-point : goal.returns-in-Ok-Minus-clause-point
returns-in-Ok-Minus-clause-point c =
    let d = c.args.f.now in
    let both = point_by_inner d c.is_field.ensures (of_form c.args.line.now) c.requires.line c.args.forms.now (of_place c.args.start.now) c.requires.start c.args.bound.now c.requires.bound
    (λ i under. c.loop-i.invariant i (omega (arith, c.loop-i-test.false))) in
    let n = subst (IsSign d (inner_value (quad_ops d) (of_place c.args.bound.now.at))) c.in-Ok-Minus.field-0-is c.in-Ok-Minus.ensures.sign in
    (λ t. absurd (false≢true t), λ h. absurd (not_both_signs (quad_ops d) (quad_ring d) (order_of d c.is_field.ensures) _ (both.1 h) n))

pub returns-in-Err-clause-wide : goal.returns-in-Err-clause-wide
returns-in-Err-clause-wide c =
    subst (IsWideFor c.args.f.now (of_form c.args.line.now) c.args.forms.now) (sym c.in-Err.ensures.wide.0)
    (c.requires.bound.number, c.requires.bound.inside, (of_place c.args.bound.now.at, c.requires.bound.bound_of.crossing, c.in-Err.ensures.wide.1))
