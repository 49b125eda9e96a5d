use Rattle.tri_core.proofs.Images.{image_turns_left}
use Rattle.tri_core.proofs.laws.images_turn_left.Goals as goal

pub returns : goal.returns
returns c = λ d n m from to field valid valid_to image. image_turns_left d n m from to image.0 image.1 image.2 valid field valid_to
