use Rattle.wall_cross.proofs.CarriedImages.{image_rewritten}
use Rattle.wall_cross.proofs.carried.images_by_equal_matrices.Goals as goal

pub returns : goal.returns
returns c = λ d n k m j from to field some same image. (image.0, image.1, image_rewritten d field n k m j from to image.0 image.1 some same image.2)
