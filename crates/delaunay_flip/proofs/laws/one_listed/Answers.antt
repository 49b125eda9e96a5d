use Rattle.delaunay_flip.proofs.Listing.{one_listed}
use Rattle.delaunay_flip.proofs.laws.one_listed.Goals as goal

pub returns : goal.returns
returns c d halves points most at to one other field valid all a b = one_listed d field halves valid points all most at to one other a b
