use Rattle.std.proofs.lemmas.Result.{err_from_is_err_and}
use Rattle.veech_cli.proofs.Based.{region_base_refused, region_refused}
use Rattle.veech_cli.proofs.region.region.Goals as goal

pub returns-in_err-base-clause-refused : goal.returns-in_err-base-clause-refused
returns-in_err-base-clause-refused c =
    let p = err_from_is_err_and c.from_residual-in_err-base.result c.from_residual-in_err-base.ensures.1 in
    rw (p.1, p.2) (region_base_refused c.args.input.now c.args.flips c.in_ok-surface.surface.bases.items c.in_ok-surface.surface.tri
    c.in_ok-surface.ensures.made c.in_err-base.field-0.0 c.in_err-base.ensures)

pub returns-in_err-text-clause-refused : goal.returns-in_err-text-clause-refused
returns-in_err-text-clause-refused c =
    let p = err_from_is_err_and c.from_residual-in_err-text.result c.from_residual-in_err-text.ensures.1 in
    rw (p.1, p.2) (region_refused c.args.input.now c.args.flips c.in_ok-surface.surface.bases.items c.in_ok-surface.surface.tri
    c.in_ok-surface.ensures.made c.in_ok-base.base c.in_ok-base.ensures c.in_err-text.field-0.0.status c.in_err-text.ensures.refused)
