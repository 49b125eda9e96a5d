use Rattle.wall_cross.proofs.CarriedReach.{reached_image}
use Rattle.wall_cross.proofs.carried.reached_ones_are_carried.Goals as goal

pub returns : goal.returns
returns c = λ d n m from to later field valid valid_to image reached.
    let found = reached_image d field n m from to valid valid_to image reached.0 later reached.1 in
    (found.0, (reached.0, found.1), found.2)
