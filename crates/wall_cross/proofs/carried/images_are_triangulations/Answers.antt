use Rattle.wall_cross.proofs.ValidImages.{image_valid}
use Rattle.wall_cross.proofs.carried.images_are_triangulations.Goals as goal

pub returns : goal.returns
returns c = λ d n m from to field valid turns image. image_valid d field n m from to image.0 image.1 valid turns image.2
