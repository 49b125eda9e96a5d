use Rattle.report_text.proofs.Injective.{matrix_injective}
use Rattle.report_text.proofs.laws.one_matrix.Goals as goal

pub returns : goal.returns
returns c one other same = matrix_injective one other same
