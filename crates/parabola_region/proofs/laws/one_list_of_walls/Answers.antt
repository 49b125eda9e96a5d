use Rattle.parabola_region.proofs.OneList.{one_list}
use Rattle.parabola_region.proofs.laws.one_list_of_walls.Goals as goal

pub returns : goal.returns
returns c = λ d halves one other field valid. one_list d field halves valid one other
