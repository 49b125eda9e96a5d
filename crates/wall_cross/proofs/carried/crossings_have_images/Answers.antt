use Rattle.wall_cross.proofs.CarriedReach.{crossing_carried}
use Rattle.wall_cross.proofs.carried.crossings_have_images.Goals as goal

pub returns : goal.returns
returns c = λ d n m from to later l edges field valid valid_to image cross. crossing_carried d field n m from to valid valid_to image l edges later cross
