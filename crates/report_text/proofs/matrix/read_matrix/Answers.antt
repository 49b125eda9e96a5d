use Rattle.report_text.specs.Limits.{IsMatrixLine}
use Rattle.report_text.proofs.MatrixLines.{none_from}
use Rattle.report_text.proofs.matrix.read_matrix.Goals as goal

pub returns-clause-none : goal.returns-clause-none
returns-clause-none c = none_from (IsMatrixLine c.args.line.now) c.matrix_of.result c.matrix_of.ensures
