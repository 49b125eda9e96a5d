use Rattle.std.proofs.Common.{◌≡◌, ℕ, List, sym, ◌∙◌, subst}
use Rattle.std.specs.Prelude.{ℤ}
use Rattle.tri_core.specs.declared.half.Half.{Half}
use Rattle.tri_core.specs.Triangulation.{IsTriangulation}
use Rattle.tri_core.specs.Refusals as tri_refusals
use Rattle.canon_code.specs.Canonical.{canonical}
use Rattle.canon_code.specs.Refusals.{HasSerialLength}
use Rattle.canon_code.proofs.Listings.{canonical_same}
use Rattle.canon_code.proofs.Refused.{not_long, not_twins, wide_third, lists_triangulation, refused_halves}
use Rattle.canon_code.proofs.reader.listed.Goals as goal

pub returns-in_default-clause-fault : goal.returns-in_default-clause-fault
returns-in_default-clause-fault c = not_long c.args.f.now c.args.numbers.now (c.triangles_of.ensures.none c.in_default.is)

pub returns-in-Err-Twin-clause-fault : goal.returns-in-Err-Twin-clause-fault
returns-in-Err-Twin-clause-fault c =
    let w = c.in-Err-Twin.ensures.twin c.in-Err-Twin.field-0-is in not_twins c.args.f.now c.args.numbers.now c.in-Some.count w.0 c.in-Some.ensures.first w.1 w.2

pub returns-in-Err-Third-clause-fault : goal.returns-in-Err-Third-clause-fault
returns-in-Err-Third-clause-fault c =
    let long : HasSerialLength c.args.numbers.now = record {
      triangles = c.in-Some.count;
      first = c.in-Some.ensures.first;
      some = c.in-Some.ensures.some;
      few = c.in-Some.ensures.few;
      count = c.in-Some.ensures.count;
    } in
    let w = c.in-Err-Third.ensures.third c.in-Err-Third.field-0-is in wide_third c.args.f.now c.args.numbers.now long w.0 w.1 w.2

pub returns-in-Ok-make-clause-lists : goal.returns-in-Ok-make-clause-lists
returns-in-Ok-make-clause-lists c =
    let d : ℕ = c.args.f.now in
    let numbers : List ℤ = c.args.numbers.now in
    let long : HasSerialLength numbers = record {
      triangles = c.in-Some.count;
      first = c.in-Some.ensures.first;
      some = c.in-Some.ensures.some;
      few = c.in-Some.ensures.few;
      count = c.in-Some.ensures.count;
    } in
    let same : c.in-Ok.halves.items ≡ canonical d numbers = c.in-Ok.ensures.halves ∙ canonical_same d numbers in
    lists_triangulation d numbers long c.in-Ok.ensures.twins (subst (IsTriangulation d) same c.in-Ok-make.ensures.valid)

pub returns-in-Err-clause-fault : goal.returns-in-Err-clause-fault
returns-in-Err-clause-fault c =
    let d : ℕ = c.args.f.now in
    let numbers : List ℤ = c.args.numbers.now in
    let long : HasSerialLength numbers = record {
      triangles = c.in-Some.count;
      first = c.in-Some.ensures.first;
      some = c.in-Some.ensures.some;
      few = c.in-Some.ensures.few;
      count = c.in-Some.ensures.count;
    } in
    let same : c.in-Ok.halves.items ≡ canonical d numbers = c.in-Ok.ensures.halves ∙ canonical_same d numbers in
    refused_halves d c.number-number.ensures.valid numbers c.in-Err.bad c.fault_of.result c.fault_of.ensures long
    (subst (λ (l : List Half). tri_refusals.IsCause d l c.in-Err.bad) same c.in-Err.ensures.cause) (λ valid. c.in-Err.ensures.accepted (subst (IsTriangulation d) (sym same) valid))
