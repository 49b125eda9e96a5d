use Rattle.wall_cross.proofs.CarriedBack.{reached_through}
use Rattle.wall_cross.proofs.carried.paths_join.Goals as goal

pub returns : goal.returns
returns c = λ d from between to first second. reached_through d from between first second.0 to second.1
