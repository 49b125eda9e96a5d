use Rattle.std.proofs.Common.{◌∙◌, inl, inr, refl, subst}
use Rattle.std.proofs.lemmas.Result.{err_from_is_err_and}
use Rattle.veech_cli.specs.Turns.{AreTurnsFound}
use Rattle.veech_cli.proofs.Grouped.{turns_refuse}
use Rattle.veech_cli.proofs.plain.report_from.Goals as goal

pub returns-in_err-turns-clause-refused : goal.returns-in_err-turns-clause-refused
returns-in_err-turns-clause-refused c =
    let p = err_from_is_err_and c.from_residual.result c.from_residual.ensures.1 in
    rw (p.1, p.2) (inr (inl (turns_refuse c.args.base.now.tri.field c.args.base.now.tri.halves c.args.limit c.args.graph.keys.items c.in_err-turns.field-0.0.status c.requires.classes
    (subst (AreTurnsFound c.args.base.now.tri.field c.args.graph.keys.items) c.in_err-turns.was c.requires.turns).1)))

pub returns-in_err-mats-clause-refused : goal.returns-in_err-mats-clause-refused
returns-in_err-mats-clause-refused c =
    let p = err_from_is_err_and c.from_residual-in_err-mats.result c.from_residual-in_err-mats.ensures.1 in
    rw (p.1, p.2) (inr (inr c.in_err-mats.ensures.refused))

pub returns-clause-report : goal.returns-clause-report
returns-clause-report c = record {
  field = c.number-field.ensures.number ∙ c.requires.field;
  point = refl;
  classes = c.requires.classes;
  matrices = c.in_ok-mats.ensures.matrices;
}
