use Rattle.wall_cross.proofs.CarriedImages.{image_composed}
use Rattle.wall_cross.proofs.carried.images_compose.Goals as goal

pub returns : goal.returns
returns c = λ d n m k b one two three first second. (
  λ j. second.0 (first.0 j),
  λ j. first.1 (second.1 j),
  image_composed d n m k b one two three first.0 first.1 second.0 second.1 first.2 second.2,
)
