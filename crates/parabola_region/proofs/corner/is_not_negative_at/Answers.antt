use Rattle.std.proofs.Common.{subst}
use Rattle.std.proofs.lemmas.Bool.{false≢true}
use Rattle.rings.specs.Forms.{value_at}
use Rattle.rings.proofs.Signs.{never_below}
use Rattle.quad_field.specs.Quads.{quad_ops, IsSign}
use Rattle.quad_field.proofs.CallerLemmas.{quad_ring, order_of}
use Rattle.hinge_form.specs.Triples.{of_form, of_place}
use Rattle.parabola_region.proofs.corner.is_not_negative_at.Goals as goal

pub returns-in-Ok-Minus-clause-sign : goal.returns-in-Ok-Minus-clause-sign
returns-in-Ok-Minus-clause-sign c =
    let d = c.args.f.now in
    let v = value_at (quad_ops d) (of_form c.args.form.now) (of_place c.args.at.now) in
    (λ t. absurd (false≢true t), λ n. never_below (quad_ops d) (quad_ring d) (order_of d c.is_field.ensures) v n (subst (IsSign d v) c.in-Ok-Minus.field-0-is c.in-Ok-Minus.ensures.sign))
