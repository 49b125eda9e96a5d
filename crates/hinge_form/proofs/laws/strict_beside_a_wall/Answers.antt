use Rattle.hinge_form.proofs.CallerLemmas as lemmas
use Rattle.hinge_form.proofs.laws.strict_beside_a_wall.Goals as goal

pub returns : goal.returns
returns c = λ d halves form edges field valid wall. lemmas.strict_somewhere d field halves valid form edges wall
