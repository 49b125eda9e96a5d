use Rattle.hinge_form.proofs.Hinged.{value_multiple}
use Rattle.hinge_form.proofs.laws.value_is_a_multiple.Goals as goal

pub returns : goal.returns
returns c = λ d halves h l field valid below t. value_multiple d halves h valid below field l t
