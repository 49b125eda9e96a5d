use Rattle.wall_cross.proofs.CarriedReach.{reached_valid}
use Rattle.wall_cross.proofs.carried.reached_ones_are_triangulations.Goals as goal

pub returns : goal.returns
returns c = λ d from to field valid reached. reached_valid d field from valid reached.0 to reached.1
