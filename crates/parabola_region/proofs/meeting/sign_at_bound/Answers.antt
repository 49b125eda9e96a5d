use Rattle.std.proofs.Common.{sym, subst}
use Rattle.rings.specs.Forms.{value_at}
use Rattle.quad_field.specs.Quads.{quad_ops, IsSign}
use Rattle.hinge_form.specs.Triples.{of_form, of_place}
use Rattle.parabola_region.proofs.Meetings.{value_turned}
use Rattle.parabola_region.proofs.meeting.sign_at_bound.Goals as goal

pub returns-in-Ok-clause-sign : goal.returns-in-Ok-clause-sign
returns-in-Ok-clause-sign c =
    let d = c.args.f.now in
    let k = of_form c.args.form.now in
    let at = of_place c.args.bound.now.at in
    subst (λ x. IsSign d x c.turned.result) (sym (value_turned d k at c.args.bound.now.falls)) (c.turned.ensures (value_at (quad_ops d) k at) c.in-Ok.ensures.sign)
