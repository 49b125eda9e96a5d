use Rattle.std.proofs.Common.{codes, []}
use Rattle.std.proofs.lemmas.Result.{err_from_is_err_and}
use Rattle.surface_text.specs.declared.cause.Cause.TheVariants.{BadFirst}
use Rattle.surface_text.proofs.Openings.{differs}
use Rattle.surface_text.proofs.Least.{first_bad, least_next, least_none}
use Rattle.surface_text.proofs.lines.first_line.Goals as goal

pub returns-in_err-line : goal.returns-in_err-line
returns-in_err-line c =
    let p = err_from_is_err_and c.from_residual.result c.from_residual.ensures.1 in
    rw (p.1, p.2) (least_none [] c.args.bytes.now (λ e. absurd cc) _ c.in_err-line.ensures)

pub returns-then-ne : goal.returns-then-ne
returns-then-ne c =
    let line = c.in_ok-line.line.now in
    let next = c.in_ok-line.ensures in
    let other = differs c.ne.result line c.as_slice.result.now (codes "flat 1") c.ne.ensures c.if-ne.true c.as_slice.ensures in
    least_next BadFirst [] (λ e. absurd cc) next (first_bad line next.1 other)
