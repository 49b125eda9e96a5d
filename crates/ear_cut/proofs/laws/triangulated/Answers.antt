use Rattle.ear_cut.proofs.CallerLemmas.{triangulation}
use Rattle.ear_cut.proofs.laws.triangulated.Goals as goal

pub returns : goal.returns
returns c g valid halves cutting = triangulation g valid halves cutting
