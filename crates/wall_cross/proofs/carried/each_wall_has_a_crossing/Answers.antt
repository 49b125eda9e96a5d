use Rattle.wall_cross.proofs.CarriedReach.{wall_crossed}
use Rattle.wall_cross.proofs.carried.each_wall_has_a_crossing.Goals as goal

pub returns : goal.returns
returns c = λ d halves form edges field valid wall. wall_crossed d field halves valid form edges wall
