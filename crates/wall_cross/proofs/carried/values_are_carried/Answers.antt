use Rattle.rings.specs.Matrices.{matrix_det}
use Rattle.quad_field.specs.Quads.{quad_ops}
use Rattle.wall_cross.proofs.CarriedHinges.{fourth_of, fourth_positive, turns, hinge_value_carried}
use Rattle.wall_cross.proofs.carried.values_are_carried.Goals as goal

pub returns : goal.returns
returns c = λ d n m from to forth back field valid valid_to image. (
  fourth_of d m,
  matrix_det (quad_ops d) n,
  fourth_positive d field n m from to forth back valid valid_to image,
  turns d field n m from to forth back valid valid_to image,
  λ k q below. hinge_value_carried d field n m from to forth back valid valid_to image k below q,
)
