use Rattle.cone_points.proofs.Directed.{rising_passes}
use Rattle.cone_points.proofs.laws.rising_is_passing.Goals as goal

pub returns : goal.returns
returns c d halves field valid h inside = rising_passes d halves field valid h inside
