use Rattle.std.proofs.lemmas.Result.{err_from_is_err_and}
use Rattle.surface_text.specs.Spelling.{content}
use Rattle.veech_cli.proofs.Settling.{gluing_refuses}
use Rattle.veech_cli.proofs.surface.surface_of.Goals as goal

pub returns-in_err-field-clause-refused : goal.returns-in_err-field-clause-refused
returns-in_err-field-clause-refused c =
    let p = err_from_is_err_and c.from_residual-in_err-field.result c.from_residual-in_err-field.ensures.1 in
    rw (p.1, p.2) (gluing_refuses c.args.input.now (content c.in_ok-file.file)
    (record { short = c.requires; spelled = c.in_ok-file.ensures.spelled; limits = c.in_ok-file.ensures.limits })
    c.in_err-field.field-0.0 c.in_err-field.ensures.refused)
