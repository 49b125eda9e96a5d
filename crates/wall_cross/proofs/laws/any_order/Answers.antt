use Rattle.wall_cross.proofs.Orders.{in_any_order, one_crossing}
use Rattle.wall_cross.proofs.laws.any_order.Goals as goal

pub returns-clause-flipped : goal.returns-clause-flipped
returns-clause-flipped c = λ d halves later form edges others field valid wall moved after. in_any_order d field halves valid form edges wall others moved later after

pub returns-clause-only : goal.returns-clause-only
returns-clause-only c = λ d halves one two form edges field valid wall a b. one_crossing d field halves valid form edges wall one two a b
