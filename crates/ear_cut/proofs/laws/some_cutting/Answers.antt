use Rattle.ear_cut.proofs.CallerLemmas.{some_cutting}
use Rattle.ear_cut.proofs.laws.some_cutting.Goals as goal

pub returns : goal.returns
returns c g valid = some_cutting g valid
