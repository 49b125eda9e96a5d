use Rattle.std.proofs.lemmas.Result.{err_from_is_err_and}
use Rattle.veech_cli.proofs.Based.{trial_no_base, trial_no_report, trial_report, family_bases}
use Rattle.veech_cli.proofs.trial.trial.Goals as goal

pub base_of_surface-requires-clause-points : goal.base_of_surface-requires-clause-points
base_of_surface-requires-clause-points c =
    family_bases c.args.number c.requires.number c.in_ok-surface.surface.bases.items c.in_ok-surface.surface.tri c.in_ok-surface.ensures.made

pub returns-in_err-base-clause-refused : goal.returns-in_err-base-clause-refused
returns-in_err-base-clause-refused c =
    let p = err_from_is_err_and c.from_residual-in_err-base.result c.from_residual-in_err-base.ensures.1 in
    rw (p.1, p.2) (λ input. trial_no_base c.args.number c.requires.number c.args.flips c.in_ok-surface.surface.bases.items c.in_ok-surface.surface.tri
    c.in_ok-surface.ensures.made c.args.limit input c.in_err-base.field-0.0 c.in_err-base.ensures)

pub returns-in_err-report-clause-refused : goal.returns-in_err-report-clause-refused
returns-in_err-report-clause-refused c =
    let p = err_from_is_err_and c.from_residual-in_err-report.result c.from_residual-in_err-report.ensures.1 in
    rw (p.1, p.2) (λ input. trial_no_report c.args.number c.requires.number c.args.flips c.in_ok-surface.surface.bases.items c.in_ok-surface.surface.tri
    c.in_ok-surface.ensures.made c.args.limit input c.in_ok-base.base c.in_ok-base.ensures c.in_err-report.field-0.0.status c.in_err-report.ensures.refused)

pub returns-clause-owed : goal.returns-clause-owed
returns-clause-owed c = λ input.
    trial_report c.args.number c.requires.number c.args.flips c.in_ok-surface.surface.bases.items c.in_ok-surface.surface.tri
    c.in_ok-surface.ensures.made c.args.limit input c.in_ok-base.base c.in_ok-base.ensures c.in_ok-report.report c.in_ok-report.ensures.report c.in_ok-text.text.items c.in_ok-text.ensures
