use Rattle.delaunay_flip.proofs.Ends.{some_listed}
use Rattle.delaunay_flip.proofs.laws.some_listed.Goals as goal

pub returns : goal.returns
returns c d halves points most field valid all some = some_listed d field halves valid points all some most
