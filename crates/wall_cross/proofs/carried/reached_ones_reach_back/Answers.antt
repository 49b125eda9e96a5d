use Rattle.wall_cross.proofs.CarriedBack.{reached_back}
use Rattle.wall_cross.proofs.carried.reached_ones_reach_back.Goals as goal

pub returns : goal.returns
returns c = λ d from to field valid reached. reached_back d field from to valid reached
