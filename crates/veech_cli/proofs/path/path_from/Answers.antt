use Rattle.std.proofs.Common.{rules}
use Rattle.std.proofs.lemmas.Result.{err_from_is_err_and}
use Rattle.veech_cli.proofs.Based.{class_refused}
use Rattle.veech_cli.proofs.path.path_from.Goals as goal

pub returns-in_err-class-clause-refused : goal.returns-in_err-class-clause-refused
returns-in_err-class-clause-refused c =
    let p = err_from_is_err_and c.from_residual-in_err-class.result c.from_residual-in_err-class.ensures.1 in
    rw (p.1, p.2) (class_refused c.args.tri.now.field c.args.tri.now.halves c.args.choices.now c.in_ok-end.end.field c.in_ok-end.end.halves _ c.in_err-class.field-0.0.status
    c.in_ok-end.ensures.field c.in_ok-end.ensures.end (search rules) c.in_err-class.ensures.refused)
