use Rattle.wall_cross.proofs.CarriedHinges.{strict_forth, strict_back}
use Rattle.wall_cross.proofs.carried.strictness_is_carried.Goals as goal

pub returns : goal.returns
returns c = λ d n m from to q field valid valid_to image. (
  strict_forth d field n m from to image.0 image.1 valid valid_to image.2 q,
  strict_back d field n m from to image.0 image.1 valid valid_to image.2 q,
)
