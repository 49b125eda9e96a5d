use Rattle.hinge_form.proofs.CallerLemmas.{place_inside}
use Rattle.delaunay_flip.proofs.Endings.{one_ending}
use Rattle.delaunay_flip.proofs.laws.one_ending.Goals as goal

pub returns : goal.returns
returns c d halves at most one other field valid base a b = one_ending d field halves valid at (place_inside d at base) most one other a b
