use Rattle.wall_cross.proofs.Orders.{none_shared}
use Rattle.wall_cross.proofs.laws.edges_share_no_triangle.Goals as goal

pub returns : goal.returns
returns c = λ d halves form edges h k field valid wall a b other. none_shared d field halves valid form edges wall h k a b other
