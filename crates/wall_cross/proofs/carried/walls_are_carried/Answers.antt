use Rattle.wall_cross.proofs.CarriedWalls.{walls_match}
use Rattle.wall_cross.proofs.carried.walls_are_carried.Goals as goal

pub returns : goal.returns
returns c = λ d n m from to l k field valid valid_to image matching. walls_match d field n m from to image.0 image.1 valid valid_to image.2 l k matching
