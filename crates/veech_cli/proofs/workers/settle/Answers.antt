use Rattle.std.proofs.lemmas.Result.{err_from_is_err_and, IfOk-at_ok}
use Rattle.command_words.specs.declared.command.Command.TheVariants.{Group}
use Rattle.veech_cli.proofs.Settling.{reading_settles, reading_whole, output_settles, output_owed, group_owed, group_refused}
use Rattle.veech_cli.proofs.Unread.{output_no_fault}
use Rattle.veech_cli.proofs.workers.settle.Goals as goal

pub returns-in_err-input-clause-refused : goal.returns-in_err-input-clause-refused
returns-in_err-input-clause-refused g c =
    let p = err_from_is_err_and c.from_residual.result c.from_residual.ensures.1 in
    rw (p.1, p.2) (reading_settles (Group c.args.asked.now.flips c.args.asked.now.limit c.args.asked.now.workers) tt (g.S.Source.left c.args.source.now) (g.S.Source.left c.read_all.new.source) c.read_all.result c.in_err-input.field-0.0 c.in_err-input.was c.read_all.ensures.too_long)

pub returns-in_err-input-clause-read_whole : goal.returns-in_err-input-clause-read_whole
returns-in_err-input-clause-read_whole g c =
    let p = err_from_is_err_and c.from_residual.result c.from_residual.ensures.1 in
    rw (p.1, p.2) (reading_whole (Group c.args.asked.now.flips c.args.asked.now.limit c.args.asked.now.workers) tt (g.S.Source.left c.args.source.now) (g.S.Source.left c.read_all.new.source) c.read_all.result c.in_err-input.field-0.0 c.in_err-input.was c.read_all.ensures.reads)

pub returns-clause-owed : goal.returns-clause-owed
returns-clause-owed g c =
    output_owed (Group c.args.asked.now.flips c.args.asked.now.limit c.args.asked.now.workers) (g.S.Source.left c.args.source.now) c.as_slice.result.now (λ text. text.items) c.group.result
    (rw c.as_slice.ensures.value (IfOk-at_ok _ c.in_ok-input.was c.read_all.ensures.all))
    (group_owed c.args.asked.now.flips c.args.asked.now.limit c.args.asked.now.workers c.number-limit.result c.number-workers.result c.as_slice.result.now c.number-limit.ensures.same c.number-workers.ensures.same c.group.result (λ text. text.items) c.group.ensures.owed)

pub returns-clause-refused : goal.returns-clause-refused
returns-clause-refused g c =
    output_settles (Group c.args.asked.now.flips c.args.asked.now.limit c.args.asked.now.workers) (g.S.Source.left c.args.source.now) c.as_slice.result.now c.group.result
    (rw c.as_slice.ensures.value (IfOk-at_ok _ c.in_ok-input.was c.read_all.ensures.all))
    (group_refused c.args.asked.now.flips c.args.asked.now.limit c.args.asked.now.workers c.number-limit.result c.number-workers.result c.as_slice.result.now c.number-limit.ensures.same c.number-workers.ensures.same c.group.result c.group.ensures.refused)

pub returns-clause-read_fault : goal.returns-clause-read_fault
returns-clause-read_fault g c =
    output_no_fault (Group c.args.asked.now.flips c.args.asked.now.limit c.args.asked.now.workers) _ _ c.group.result
    (group_refused c.args.asked.now.flips c.args.asked.now.limit c.args.asked.now.workers c.number-limit.result c.number-workers.result c.as_slice.result.now c.number-limit.ensures.same c.number-workers.ensures.same c.group.result c.group.ensures.refused)
