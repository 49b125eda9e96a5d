use Rattle.std.proofs.Common.{refl}
use Rattle.plane.specs.Matrices.{FieldMatrix}
use Rattle.report_text.specs.Lines.{Line}
use Rattle.report_text.specs.Limits.{IsMatrix}
use Rattle.report_text.proofs.NextLines.{cut, no_line, taken}
use Rattle.report_text.proofs.lines.matrix_line.Goals as goal

pub returns-in_err-line : goal.returns-in_err-line
returns-in_err-line c = rw c.from_residual.ensures (cut FieldMatrix Line.matrix IsMatrix c.args.rest.now c.in_err-line.ensures)

pub returns-in_err-matrix : goal.returns-in_err-matrix
returns-in_err-matrix c =
    rw c.from_residual-in_err-matrix.ensures (no_line FieldMatrix Line.matrix IsMatrix c.args.rest.now c.in_ok-line.line.now c.in_ok-line.after.now c.in_ok-line.ensures (λ m e is. let yes = (c.in_err-matrix.ensures.matrix m).1 (e, is) in absurd (cc)))

pub returns : goal.returns
returns c = let is = (c.in_ok-matrix.ensures.matrix c.in_ok-matrix.matrix).0 refl in taken FieldMatrix Line.matrix IsMatrix c.args.rest.now c.in_ok-line.line.now c.in_ok-line.after.now c.in_ok-line.ensures c.in_ok-matrix.matrix is.0 is.1
