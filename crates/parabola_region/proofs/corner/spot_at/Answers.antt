use Rattle.std.proofs.Common.{◌∙◌, sym, subst}
use Rattle.std.proofs.lemmas.Bool.{false≢true}
use Rattle.rings.specs.Forms.{inner_value}
use Rattle.quad_field.specs.Quads.{quad_ops, IsPositive, IsSign}
use Rattle.hinge_form.specs.Triples.{of_place}
use Rattle.parabola_region.specs.Spots.{IsWideAt}
use Rattle.parabola_region.proofs.Spots.{not_closed_inner, closed_zero, closed_plus, plus_not_zero}
use Rattle.parabola_region.proofs.corner.spot_at.Goals as goal

pub returns-in-Ok-Minus-clause-spot : goal.returns-in-Ok-Minus-clause-spot
returns-in-Ok-Minus-clause-spot c both =
    let d = c.args.f.now in
    let q = of_place c.args.at.now in
    not_closed_inner d c.is_field.ensures q (subst (IsSign d (inner_value (quad_ops d) q)) c.in-Ok-Minus.field-0-is c.in-Ok-Minus.ensures.sign) both.0

pub returns-in-Ok-Zero-clause-spot : goal.returns-in-Ok-Zero-clause-spot
returns-in-Ok-Zero-clause-spot c =
    let d = c.args.f.now in
    let q = of_place c.args.at.now in
    let z = subst (IsSign d (inner_value (quad_ops d) q)) c.in-Ok-Zero.field-0-is c.in-Ok-Zero.ensures.sign in (
      c.found_at.ensures.place,
      closed_zero d c.is_field.ensures q c.requires.forward (λ n. false≢true (c.if-is_negative.ensures.1 n)) z,
      c.in-Ok-true.ensures.none.0 c.in-Ok-true.field-0-test,
      (λ t. z, λ _. c.found_at.ensures.ideal),
    )

pub returns-in-Ok-Plus-clause-spot : goal.returns-in-Ok-Plus-clause-spot
returns-in-Ok-Plus-clause-spot c =
    let d = c.args.f.now in
    let q = of_place c.args.at.now in
    let p = subst (IsSign d (inner_value (quad_ops d) q)) c.in-Ok-Plus.field-0-is c.in-Ok-Plus.ensures.sign in
    let third : ¬ (IsPositive d ((quad_ops d).neg q.2)) = λ n. false≢true (c.if-is_negative.ensures.1 n) in (
      c.found_at-in-Ok-Plus.ensures.place,
      closed_plus d c.is_field.ensures q c.requires.forward third p,
      c.in-Ok-true.ensures.none.0 c.in-Ok-true.field-0-test,
      (λ t. absurd (false≢true (sym c.found_at-in-Ok-Plus.ensures.ideal ∙ t)), λ z. absurd (plus_not_zero d c.is_field.ensures q c.requires.forward third p z)),
    )

pub returns-in-Err-inner_sign-clause-wide : goal.returns-in-Err-inner_sign-clause-wide
returns-in-Err-inner_sign-clause-wide c =
    subst (IsWideAt c.args.f.now c.args.forms.now (of_place c.args.at.now)) (sym c.in-Err-inner_sign.ensures.wide.0) c.in-Err-inner_sign.ensures.wide.1
