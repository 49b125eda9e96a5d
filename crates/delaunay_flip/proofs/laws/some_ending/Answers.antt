use Rattle.delaunay_flip.proofs.Ends.{some_ending}
use Rattle.delaunay_flip.proofs.laws.some_ending.Goals as goal

pub returns : goal.returns
returns c d halves at most field valid base = some_ending d field halves valid at base most
