use Rattle.wall_cross.proofs.Behind.{edge_behind}
use Rattle.wall_cross.proofs.laws.signs_at_the_wall.Goals as goal

pub returns : goal.returns
returns c = λ d halves later form q edges field valid wall point flips. edge_behind d field halves valid form edges wall later flips q point
