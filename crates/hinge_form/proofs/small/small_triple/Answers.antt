use Rattle.std.proofs.Common.{◌∙◌, sym}
use Rattle.rings.specs.Forms.{hinge_triple}
use Rattle.quad_field.specs.Quads.{quad_ops}
use Rattle.hinge_form.specs.Small.{coordinates}
use Rattle.hinge_form.proofs.SmallHinges.{triple_in_field}
use Rattle.hinge_form.proofs.small.small_triple.Goals as goal

pub returns : goal.returns
returns c = λ n.
    let a = c.wholes in
    let b = c.wholes-2 in
    let d = c.wholes-3 in
    c.whole_triple.ensures
    ∙ triple_in_field n (coordinates a.result) (coordinates b.result) (coordinates d.result) a.ensures.within b.ensures.within d.ensures.within
    ∙ λ i. hinge_triple (quad_ops n) (sym a.ensures.same i) (sym b.ensures.same i) (sym d.ensures.same i)
