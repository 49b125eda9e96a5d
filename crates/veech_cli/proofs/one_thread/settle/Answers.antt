use Rattle.std.proofs.lemmas.Result.{err_from_is_err_and, IfOk-at_ok}
use Rattle.veech_cli.proofs.Settling.{reading_settles, reading_whole, output_settles, owed_whatever, settles_whatever}
use Rattle.veech_cli.proofs.Unread.{none_read, is_read, output_blameless, output_no_fault, unread_whole}
use Rattle.veech_cli.proofs.one_thread.settle.Goals as goal

pub returns-then-not-reads_input-clause-owed : goal.returns-then-not-reads_input-clause-owed
returns-then-not-reads_input-clause-owed g c =
    owed_whatever c.args.command (none_read c.reads_input.result c.reads_input.ensures c.if-not-reads_input.true) (g.S.Source.left c.args.source.now) _ (λ text. text.items) c.output.result c.output.ensures.owed

pub returns-then-not-reads_input-clause-refused : goal.returns-then-not-reads_input-clause-refused
returns-then-not-reads_input-clause-refused g c =
    settles_whatever c.args.command (none_read c.reads_input.result c.reads_input.ensures c.if-not-reads_input.true) (g.S.Source.left c.args.source.now) _ c.output.result c.output.ensures.refused

pub returns-then-not-reads_input-clause-blameless : goal.returns-then-not-reads_input-clause-blameless
returns-then-not-reads_input-clause-blameless g c = output_blameless c.args.command _ c.output.result c.output.ensures.refused

pub returns-then-not-reads_input-clause-read_whole : goal.returns-then-not-reads_input-clause-read_whole
returns-then-not-reads_input-clause-read_whole g c = unread_whole c.args.command (none_read c.reads_input.result c.reads_input.ensures c.if-not-reads_input.true) _ c.output.result

pub returns-then-not-reads_input-clause-read_fault : goal.returns-then-not-reads_input-clause-read_fault
returns-then-not-reads_input-clause-read_fault g c = output_no_fault c.args.command _ _ c.output.result c.output.ensures.refused

pub returns-in_err-input-clause-refused : goal.returns-in_err-input-clause-refused
returns-in_err-input-clause-refused g c =
    let p = err_from_is_err_and c.from_residual.result c.from_residual.ensures.1 in
    rw (p.1, p.2) (reading_settles c.args.command (is_read c.reads_input.result c.reads_input.ensures c.if-not-reads_input.false) (g.S.Source.left c.args.source.now) (g.S.Source.left c.read_all.new.source) c.read_all.result c.in_err-input.field-0.0 c.in_err-input.was c.read_all.ensures.too_long)

pub returns-in_err-input-clause-read_whole : goal.returns-in_err-input-clause-read_whole
returns-in_err-input-clause-read_whole g c =
    let p = err_from_is_err_and c.from_residual.result c.from_residual.ensures.1 in
    rw (p.1, p.2) (λ reads. reading_whole c.args.command reads (g.S.Source.left c.args.source.now) (g.S.Source.left c.read_all.new.source) c.read_all.result c.in_err-input.field-0.0 c.in_err-input.was c.read_all.ensures.reads)

pub returns-clause-refused : goal.returns-clause-refused
returns-clause-refused g c =
    output_settles c.args.command (g.S.Source.left c.args.source.now) c.as_slice.result.now c.output-2.result
    (rw c.as_slice.ensures.value (IfOk-at_ok _ c.in_ok-input.was c.read_all.ensures.all)) c.output-2.ensures.refused

pub returns-clause-read_fault : goal.returns-clause-read_fault
returns-clause-read_fault g c = output_no_fault c.args.command _ _ c.output-2.result c.output-2.ensures.refused
