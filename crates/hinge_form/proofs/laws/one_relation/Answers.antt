use Rattle.hinge_form.proofs.Relations as relations
use Rattle.hinge_form.proofs.laws.one_relation.Goals as goal

pub returns : goal.returns
returns c = λ d l k r s field some a b. relations.one_relation d field l k some r s a b
