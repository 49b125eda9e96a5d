use Rattle.wall_cross.proofs.CarriedClasses.{cross_image}
use Rattle.wall_cross.proofs.carried.crossings_are_carried.Goals as goal

pub returns : goal.returns
returns c = λ d n m from to later later_to l k edges others field valid valid_to image matching one two.
    cross_image d field n m from to valid valid_to image l k edges others matching later later_to one two
