use Rattle.std.proofs.lemmas.Result.{err_from_is_err_and}
use Rattle.surface_text.specs.Limits.{IsBasePoint}
use Rattle.veech_cli.proofs.Based.{plain_no_base, plain_no_report, plain_report, base_point}
use Rattle.std.proofs.Common.{sym, subst, false}
use Rattle.veech_cli.proofs.group.group.Goals as goal

pub returns-in_err-base-clause-refused : goal.returns-in_err-base-clause-refused
returns-in_err-base-clause-refused g c =
    let p = err_from_is_err_and c.from_residual-in_err-base.result c.from_residual-in_err-base.ensures.1 in
    rw (p.1, p.2) (plain_no_base c.args.input.now c.args.flips c.in_ok-surface.surface.bases.items c.in_ok-surface.surface.tri
    c.in_ok-surface.ensures.made c.args.limit false c.in_err-base.field-0.0 c.in_err-base.ensures)

pub returns-in_err-report-clause-refused : goal.returns-in_err-report-clause-refused
returns-in_err-report-clause-refused g c =
    let p = err_from_is_err_and c.from_residual-in_err-report.result c.from_residual-in_err-report.ensures.1 in
    rw (p.1, p.2) (plain_no_report c.args.input.now c.args.flips c.in_ok-surface.surface.bases.items c.in_ok-surface.surface.tri
    c.in_ok-surface.ensures.made c.args.limit false c.in_ok-base.base c.in_ok-base.ensures c.in_err-report.field-0.0.status c.in_err-report.ensures.refused)

pub print-requires : goal.print-requires
print-requires g c =
    subst IsBasePoint (sym c.in_ok-report.ensures.report.point)
    (base_point c.args.input.now c.args.flips c.in_ok-surface.surface.bases.items c.in_ok-surface.surface.tri c.in_ok-surface.ensures.made c.in_ok-base.base c.in_ok-base.ensures)

pub returns-clause-owed : goal.returns-clause-owed
returns-clause-owed g c =
    plain_report c.args.input.now c.args.flips c.in_ok-surface.surface.bases.items c.in_ok-surface.surface.tri
    c.in_ok-surface.ensures.made c.args.limit false c.in_ok-base.base c.in_ok-base.ensures c.in_ok-report.report c.in_ok-report.ensures.report c.in_ok-text.text.items c.in_ok-text.ensures
