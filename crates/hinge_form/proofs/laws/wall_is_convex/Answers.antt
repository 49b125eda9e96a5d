use Rattle.hinge_form.proofs.CallerLemmas as lemmas
use Rattle.hinge_form.proofs.laws.wall_is_convex.Goals as goal

pub returns : goal.returns
returns c = λ d halves form edges h field valid wall c. lemmas.wall_is_convex d field halves valid form edges wall h c
