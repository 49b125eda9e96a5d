use Rattle.hinge_form.proofs.Hinged.{value_from_twin}
use Rattle.hinge_form.proofs.laws.one_value_an_edge.Goals as goal

pub returns : goal.returns
returns c = λ d halves h q field valid below. value_from_twin d halves h valid below q
