use Rattle.hinge_form.proofs.Diagonals.{value_after}
use Rattle.hinge_form.proofs.laws.new_diagonal_is_opposite.Goals as goal

pub returns : goal.returns
returns c = λ d halves later h q field valid below flip. value_after d halves later h valid below flip q
