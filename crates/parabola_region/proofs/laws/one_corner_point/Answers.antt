use Rattle.parabola_region.proofs.Turned.{only_corner}
use Rattle.parabola_region.proofs.laws.one_corner_point.Goals as goal

pub returns : goal.returns
returns c = λ d halves l k p q field a b. only_corner d field halves l k p q a b
