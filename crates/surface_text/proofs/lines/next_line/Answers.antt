use Rattle.std.proofs.lemmas.Result.{err_from_is_err_and}
use Rattle.surface_text.specs.Spelling.{content, lines_before_end}
use Rattle.surface_text.proofs.Behind.{file_wanted, refused_next}
use Rattle.surface_text.proofs.Least.{least_none}
use Rattle.surface_text.proofs.lines.next_line.Goals as goal

pub returns-in_err-line : goal.returns-in_err-line
returns-in_err-line c =
    let p = err_from_is_err_and c.from_residual.result c.from_residual.ensures.1 in
    let file = c.args.file.now in
    rw (p.1, p.2) (least_none (lines_before_end (content file)) c.args.rest.now (file_wanted file c.requires) _ c.in_err-line.ensures)

pub returns-in_err-body_line : goal.returns-in_err-body_line
returns-in_err-body_line c =
    let p = err_from_is_err_and c.from_residual-in_err-body_line.result c.from_residual-in_err-body_line.ensures.1 in
    let file = c.args.file.now in
    rw (p.1, p.2) (refused_next _ (lines_before_end (content file)) (file_wanted file c.requires) c.in_ok-line.ensures c.in_err-body_line.ensures)
