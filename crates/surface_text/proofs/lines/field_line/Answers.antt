use Rattle.std.proofs.Common.{[], ◌∷◌}
use Rattle.std.proofs.lemmas.Result.{err_from_is_err_and}
use Rattle.surface_text.specs.Spelling.{Line}
use Rattle.surface_text.proofs.Least.{least_next, least_none}
use Rattle.surface_text.proofs.lines.field_line.Goals as goal

pub returns-in_err-line : goal.returns-in_err-line
returns-in_err-line c =
    let p = err_from_is_err_and c.from_residual.result c.from_residual.ensures.1 in
    rw (p.1, p.2) (least_none (Line.flat ∷ []) c.args.rest.now (λ e. absurd cc) _ c.in_err-line.ensures)

pub returns-in_err-field_in : goal.returns-in_err-field_in
returns-in_err-field_in c =
    let p = err_from_is_err_and c.from_residual-in_err-field_in.result c.from_residual-in_err-field_in.ensures.1 in
    rw (p.1, p.2) (least_next _ (Line.flat ∷ []) (λ e. absurd cc) c.in_ok-line.ensures c.in_err-field_in.ensures)
