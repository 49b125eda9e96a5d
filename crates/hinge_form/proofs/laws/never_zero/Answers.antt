use Rattle.hinge_form.proofs.Hinged.{hinge_some}
use Rattle.hinge_form.proofs.laws.never_zero.Goals as goal

pub returns : goal.returns
returns c = λ d halves h l field valid below t. hinge_some d halves h valid below field l t
