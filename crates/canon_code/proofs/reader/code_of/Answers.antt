use Rattle.std.proofs.Common.{◌≡◌, ℕ, List, true, false, sym, ◌∙◌, subst}
use Rattle.std.specs.Prelude.{ℤ}
use Rattle.std.proofs.lemmas.Bool.Decides.{Decides-int_eq}
use Rattle.std.proofs.lemmas.Slice.Eq.{slice_eq-Decides}
use Rattle.tri_core.specs.Triangulation.{Triangulation}
use Rattle.canon_code.specs.Codes.{IsCode}
use Rattle.canon_code.specs.Canonical.{canonical}
use Rattle.canon_code.proofs.Refused.{not_its_code}
use Rattle.canon_code.proofs.reader.code_of.Goals as goal

pub returns-then-eq-clause-code : goal.returns-then-eq-clause-code
returns-then-eq-clause-code c =
    let same : c.numbers.result.now ≡ c.args.numbers.now = (slice_eq-Decides Decides-int_eq c.numbers.result.now c.args.numbers.now c.eq.result c.eq.ensures).0 c.if-eq.true in
    (sym c.numbers.ensures ∙ same, c.in-Ok-canon_of.ensures.made)

pub returns-clause-fault : goal.returns-clause-fault
returns-clause-fault c =
    let d : ℕ = c.args.f.now in
    let code : List ℤ = c.in-Ok-canon_of.canon.code in
    let own : IsCode d (canonical d c.args.numbers.now) code = subst (λ (t : Triangulation). IsCode d t.halves code) c.in-Ok.ensures.tri c.in-Ok-canon_of.ensures.code in
    not_its_code d c.number-number.ensures.valid c.args.numbers.now code own
    (λ e.
    let r : c.eq.result ≡ true = (slice_eq-Decides Decides-int_eq c.numbers.result.now c.args.numbers.now c.eq.result c.eq.ensures).1 (c.numbers.ensures ∙ e) in
    let never : true ≡ false = sym r ∙ c.if-eq.false in cc)
