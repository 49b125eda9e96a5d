use Rattle.ear_cut.proofs.CallerLemmas.{one_cutting}
use Rattle.ear_cut.proofs.laws.one_cutting.Goals as goal

pub returns : goal.returns
returns c g valid halves others one other = one_cutting g valid halves others one other
