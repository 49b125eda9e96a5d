use Rattle.wall_cross.proofs.Behind.{opposite_behind}
use Rattle.wall_cross.proofs.laws.values_turn_over.Goals as goal

pub returns : goal.returns
returns c = λ d halves later form q edges h field valid wall flips c. opposite_behind d field halves valid form edges wall later flips h c q
