use Rattle.wall_cross.proofs.Crossed.{crossed_back}
use Rattle.wall_cross.proofs.laws.crossing_back.Goals as goal

pub returns : goal.returns
returns c = λ d halves later last form edges field valid wall flips again. crossed_back d field halves valid form edges wall later flips last again
