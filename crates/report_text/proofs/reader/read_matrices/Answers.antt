use Rattle.std.proofs.Common.{◌<◌, ◌+◌, List, length, sym, subst, arith}
use Rattle.plane.specs.Matrices.{FieldMatrix}
use Rattle.report_text.proofs.Wholes.{MatricesSoFar, one_matrix, matrix_refused}
use Rattle.report_text.proofs.reader.read_matrices.Goals as goal

pub returns-in_default-clause-fault : goal.returns-in_default-clause-fault
returns-in_default-clause-fault c =
    let low : length c.matrices.mats.items < c.args.wanted = omega (arith, c.matrices.mats.ok.0) in
    let line = c.args.passed + c.len-in_default.result + 1 in
    matrix_refused c.args.wanted c.args.bytes.now c.matrices.mats.items c.matrices.rest.now c.matrices.invariant c.args.passed line low (omega (arith, c.matrices.mats.ok.0)) c.in_default.ensures

pub matrices-preserved : goal.matrices-preserved
matrices-preserved c =
    let low : length c.matrices.mats.items < c.args.wanted = omega (arith, c.matrices.mats.ok.0) in
    subst (λ (l : List FieldMatrix). MatricesSoFar c.args.wanted c.args.bytes.now l c.in-Some.read.1.now) (sym c.in_ok-push.ensures.items)
    (one_matrix c.args.wanted c.args.bytes.now c.matrices.mats.items c.matrices.rest.now c.matrices.invariant c.in-Some.read.0 c.in-Some.read.1.now low c.in-Some.ensures)
