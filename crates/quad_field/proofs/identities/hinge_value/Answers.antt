use Rattle.rings.proofs.Forms as forms
use Rattle.quad_field.specs.Quads.{quad_ops}
use Rattle.quad_field.proofs.KIntegers.{quad_ring}
use Rattle.quad_field.proofs.identities.hinge_value.Goals as goal

pub returns : goal.returns
returns c = λ d. forms.hinge_value (quad_ops d) (quad_ring d)
