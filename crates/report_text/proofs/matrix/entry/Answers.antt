use Rattle.report_text.proofs.MatrixLines.{entry_cut, entry_none}
use Rattle.report_text.proofs.matrix.entry.Goals as goal

pub returns-in_err-word : goal.returns-in_err-word
returns-in_err-word c = rw c.from_residual.ensures (entry_cut c.args.bytes.now c.in_err-word.ensures)

pub returns-in-Large : goal.returns-in-Large
returns-in-Large c =
    entry_none c.args.bytes.now c.in_ok-word.word.now c.in_ok-word.behind.now c.in_ok-word.ensures (λ x fits e. let yes = (c.read_quad.ensures.value x).1 (e, fits) in absurd (cc))

pub returns-in-Not : goal.returns-in-Not
returns-in-Not c =
    entry_none c.args.bytes.now c.in_ok-word.word.now c.in_ok-word.behind.now c.in_ok-word.ensures (λ x fits e. let yes = (c.read_quad.ensures.value x).1 (e, fits) in absurd (cc))
