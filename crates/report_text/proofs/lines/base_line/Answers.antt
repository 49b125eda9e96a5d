use Rattle.std.proofs.Common.{Some, None, codes, refl}
use Rattle.std.proofs.lemmas.Bool.Decides.{Decides-eqb}
use Rattle.std.proofs.lemmas.Slice.Eq.{strip_prefix_is}
use Rattle.surface_text.specs.Spelling.{point_text}
use Rattle.surface_text.specs.declared.file.Point.{Point}
use Rattle.surface_text.specs.Limits.{IsBasePoint}
use Rattle.report_text.specs.Lines.{Line}
use Rattle.report_text.proofs.NextLines.{cut, other_word, no_value, value_taken}
use Rattle.report_text.proofs.lines.base_line.Goals as goal

pub returns-in_err-line : goal.returns-in_err-line
returns-in_err-line c = rw c.from_residual.ensures (cut Point Line.base IsBasePoint c.args.rest.now c.in_err-line.ensures)

pub returns-in_err-word : goal.returns-in_err-word
returns-in_err-word c =
    let none = strip_prefix_is Decides-eqb c.in_ok-line.line.now (codes "base ") None c.in_err-word.ensures.cases in
    rw c.from_residual-in_err-word.ensures (other_word Point Line.base IsBasePoint c.args.rest.now c.in_ok-line.line.now c.in_ok-line.after.now c.in_ok-line.ensures (codes "base ") point_text (λ x. refl) none)

pub returns-in_err-point : goal.returns-in_err-point
returns-in_err-point c =
    let head = strip_prefix_is Decides-eqb c.in_ok-line.line.now (codes "base ") (Some c.in_ok-word.word) c.in_ok-word.ensures.cases in
    rw c.from_residual-in_err-point.ensures
    (no_value Point Line.base IsBasePoint c.args.rest.now c.in_ok-line.line.now c.in_ok-line.after.now c.in_ok-line.ensures (codes "base ") point_text (λ x. refl) c.in_ok-word.word.now head (λ x e fits. let yes = (c.in_err-point.ensures x).1 (e, fits) in absurd (cc)))

pub returns : goal.returns
returns c =
    let head = strip_prefix_is Decides-eqb c.in_ok-line.line.now (codes "base ") (Some c.in_ok-word.word) c.in_ok-word.ensures.cases in
    let is = (c.in_ok-point.ensures c.in_ok-point.point).0 refl in
    value_taken Point Line.base IsBasePoint c.args.rest.now c.in_ok-line.line.now c.in_ok-line.after.now c.in_ok-line.ensures (codes "base ") point_text (λ x. refl) c.in_ok-word.word.now c.in_ok-point.point head is.0 is.1
