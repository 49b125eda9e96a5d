use Rattle.std.proofs.Common.{ℕ, Some, None, codes, refl}
use Rattle.std.proofs.lemmas.Bool.Decides.{Decides-eqb}
use Rattle.std.proofs.lemmas.Slice.Eq.{strip_prefix_is}
use Rattle.plane.specs.Spelling.{natural_text}
use Rattle.quad_field.specs.FieldNumber.{IsFieldNumber}
use Rattle.report_text.specs.Lines.{Line}
use Rattle.report_text.proofs.NextLines.{cut, other_word, no_value, value_taken}
use Rattle.report_text.proofs.lines.field_line.Goals as goal

pub returns-in_err-line : goal.returns-in_err-line
returns-in_err-line c = rw c.from_residual.ensures (cut ℕ Line.field IsFieldNumber c.args.rest.now c.in_err-line.ensures)

pub returns-in_err-word : goal.returns-in_err-word
returns-in_err-word c =
    let none = strip_prefix_is Decides-eqb c.in_ok-line.line.now (codes "field ") None c.in_err-word.ensures.cases in
    rw c.from_residual-in_err-word.ensures (other_word ℕ Line.field IsFieldNumber c.args.rest.now c.in_ok-line.line.now c.in_ok-line.after.now c.in_ok-line.ensures (codes "field ") natural_text (λ x. refl) none)

pub returns-in_err-field : goal.returns-in_err-field
returns-in_err-field c =
    let head = strip_prefix_is Decides-eqb c.in_ok-line.line.now (codes "field ") (Some c.in_ok-word.word) c.in_ok-word.ensures.cases in
    rw c.from_residual-in_err-field.ensures
    (no_value ℕ Line.field IsFieldNumber c.args.rest.now c.in_ok-line.line.now c.in_ok-line.after.now c.in_ok-line.ensures (codes "field ") natural_text (λ x. refl) c.in_ok-word.word.now head (λ x e fits. let yes = (c.in_err-field.ensures x).1 (e, fits) in absurd (cc)))

pub returns : goal.returns
returns c =
    let head = strip_prefix_is Decides-eqb c.in_ok-line.line.now (codes "field ") (Some c.in_ok-word.word) c.in_ok-word.ensures.cases in
    let is = (c.in_ok-field.ensures c.in_ok-field.field).0 refl in
    value_taken ℕ Line.field IsFieldNumber c.args.rest.now c.in_ok-line.line.now c.in_ok-line.after.now c.in_ok-line.ensures (codes "field ") natural_text (λ x. refl) c.in_ok-word.word.now c.in_ok-field.field head is.0 is.1
