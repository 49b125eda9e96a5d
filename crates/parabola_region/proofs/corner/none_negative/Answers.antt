use Rattle.std.proofs.Common.{below_more}
use Rattle.rings.specs.Forms.{value_at}
use Rattle.quad_field.specs.Quads.{quad_ops}
use Rattle.hinge_form.specs.Triples.{of_place}
use Rattle.parabola_region.specs.HingeLists.{form_at}
use Rattle.parabola_region.specs.Corners.{NotNegative}
use Rattle.parabola_region.proofs.corner.none_negative.Goals as goal

pub loop-i-preserved : goal.loop-i-preserved
loop-i-preserved c =
    below_more (λ k. NotNegative c.args.f.now (value_at (quad_ops c.args.f.now) (form_at c.args.forms.now k) (of_place c.args.at.now))) c.loop-i.i c.loop-i.invariant
    (c.in-Ok-true.ensures.sign.0 c.in-Ok-true.field-0-test)
