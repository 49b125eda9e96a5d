use Rattle.std.proofs.Common.{Some, codes}
use Rattle.std.proofs.lemmas.Bool.Decides.{Decides-eqb}
use Rattle.std.proofs.lemmas.Slice.Eq.{strip_prefix_is}
use Rattle.report_text.proofs.MatrixLines.{no_second, no_third, no_fourth}
use Rattle.report_text.proofs.matrix.four_entries.Goals as goal

pub returns-in_err-b : goal.returns-in_err-b
returns-in_err-b c =
    let head = strip_prefix_is Decides-eqb c.args.line.now (codes "matrix ") (Some c.in_ok-tail.tail) c.in_ok-tail.ensures.cases in
    rw c.from_residual-in_err-b.ensures (no_second c.args.line.now c.in_ok-tail.tail.now head c.in_ok-a.a c.in_ok-a.second.now c.in_ok-a.ensures.0 c.in_err-b.ensures)

pub returns-in_err-c : goal.returns-in_err-c
returns-in_err-c c =
    let head = strip_prefix_is Decides-eqb c.args.line.now (codes "matrix ") (Some c.in_ok-tail.tail) c.in_ok-tail.ensures.cases in
    rw c.from_residual-in_err-c.ensures
    (no_third c.args.line.now c.in_ok-tail.tail.now head c.in_ok-a.a c.in_ok-a.second.now c.in_ok-a.ensures.0 c.in_ok-b.b c.in_ok-b.third.now c.in_ok-b.ensures.0 c.in_err-c.ensures)

pub returns-in_err-d : goal.returns-in_err-d
returns-in_err-d c =
    let head = strip_prefix_is Decides-eqb c.args.line.now (codes "matrix ") (Some c.in_ok-tail.tail) c.in_ok-tail.ensures.cases in
    rw c.from_residual-in_err-d.ensures
    (no_fourth c.args.line.now c.in_ok-tail.tail.now head c.in_ok-a.a c.in_ok-a.second.now c.in_ok-a.ensures.0 c.in_ok-b.b c.in_ok-b.third.now c.in_ok-b.ensures.0
    c.in_ok-c.c c.in_ok-c.fourth.now c.in_ok-c.ensures.0 c.in_err-d.ensures)
