use Rattle.wall_cross.proofs.Behind.{wall_behind}
use Rattle.wall_cross.proofs.laws.a_wall_from_behind.Goals as goal

pub returns : goal.returns
returns c = λ d halves later form edges field valid wall flips. wall_behind d field halves valid form edges wall later flips
