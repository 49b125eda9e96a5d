use Rattle.returning.proofs.Areas.{returning_one}
use Rattle.returning.proofs.laws.returning_derivatives_have_determinant_one.Goals as goal

pub returns : goal.returns
returns c = λ d base a field valid returning. returning_one d field base valid a returning
