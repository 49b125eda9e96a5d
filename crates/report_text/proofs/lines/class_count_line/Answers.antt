use Rattle.std.proofs.Common.{◌≡◌, ◌≤◌, ℕ, Some, None, codes, refl, sym, ◌∙◌, arith}
use Rattle.std.proofs.lemmas.Bool.Decides.{Decides-eqb}
use Rattle.std.proofs.lemmas.Slice.Eq.{strip_prefix_is}
use Rattle.plane.specs.Spelling.{natural_text}
use Rattle.plane.proofs.CallerLemmas.{natural_text_injective}
use Rattle.report_text.specs.Lines.{Line}
use Rattle.report_text.specs.Limits.{IsClassCount}
use Rattle.report_text.proofs.NextLines.{cut, other_word, no_value, value_taken}
use Rattle.report_text.proofs.lines.class_count_line.Goals as goal

pub returns-in_err-line : goal.returns-in_err-line
returns-in_err-line c = rw c.from_residual.ensures (cut ℕ Line.class_count IsClassCount c.args.rest.now c.in_err-line.ensures)

pub returns-in_err-word : goal.returns-in_err-word
returns-in_err-word c =
    let none = strip_prefix_is Decides-eqb c.in_ok-line.line.now (codes "classes ") None c.in_err-word.ensures.cases in
    rw c.from_residual-in_err-word.ensures (other_word ℕ Line.class_count IsClassCount c.args.rest.now c.in_ok-line.line.now c.in_ok-line.after.now c.in_ok-line.ensures (codes "classes ") natural_text (λ x. refl) none)

pub returns-in_err-count : goal.returns-in_err-count
returns-in_err-count c =
    let head = strip_prefix_is Decides-eqb c.in_ok-line.line.now (codes "classes ") (Some c.in_ok-word.word) c.in_ok-word.ensures.cases in
    rw c.from_residual-in_err-count.ensures
    (no_value ℕ Line.class_count IsClassCount c.args.rest.now c.in_ok-line.line.now c.in_ok-line.after.now c.in_ok-line.ensures (codes "classes ") natural_text (λ x. refl) c.in_ok-word.word.now head (λ x e fits. let yes = (c.in_err-count.ensures x).1 (e, fits.1) in absurd (cc)))

pub returns-then-count-eq0 : goal.returns-then-count-eq0
returns-then-count-eq0 c =
    let head = strip_prefix_is Decides-eqb c.in_ok-line.line.now (codes "classes ") (Some c.in_ok-word.word) c.in_ok-word.ensures.cases in
    let is = (c.in_ok-count.ensures c.in_ok-count.count).0 refl in
    no_value ℕ Line.class_count IsClassCount c.args.rest.now c.in_ok-line.line.now c.in_ok-line.after.now c.in_ok-line.ensures (codes "classes ") natural_text (λ x. refl) c.in_ok-word.word.now head
    (λ x e fits.
    let same : x ≡ c.in_ok-count.count = natural_text_injective x c.in_ok-count.count (sym e ∙ is.0) in
    let some : 1 ≤ x = fits.0 in omega arith)

pub returns-else-count-eq0 : goal.returns-else-count-eq0
returns-else-count-eq0 c =
    let head = strip_prefix_is Decides-eqb c.in_ok-line.line.now (codes "classes ") (Some c.in_ok-word.word) c.in_ok-word.ensures.cases in
    let is = (c.in_ok-count.ensures c.in_ok-count.count).0 refl in
    value_taken ℕ Line.class_count IsClassCount c.args.rest.now c.in_ok-line.line.now c.in_ok-line.after.now c.in_ok-line.ensures (codes "classes ") natural_text (λ x. refl) c.in_ok-word.word.now c.in_ok-count.count head is.0 (omega arith, is.1)
