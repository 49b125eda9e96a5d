use Rattle.std.proofs.Common.{◌≡◌, ◌<◌, ℕ, List, sym, ap, ◌∙◌, subst}
use Rattle.std.specs.Prelude.{ℤ, unsigned_abs}
use mathlib.Core.HLevel.{⊥_prop}
use mathlib.Core.Logic.{∥∥₁_elim}
use Rattle.tri_core.specs.declared.half.Half.{Half}
use Rattle.tri_core.specs.Triangulation.{Triangulation, IsTriangulation}
use Rattle.canon_code.specs.Codes.{IsCode}
use Rattle.canon_code.specs.Canonical.{canonical, ThirdVectorsFit, IsMade}
use Rattle.canon_code.proofs.Canonical.{canonical_valid}
use Rattle.canon_code.proofs.Listings.{canonical_same, third_listed, code_long, code_twins}
use Rattle.canon_code.proofs.Merely.{triangulation_prop}
use Rattle.canon_code.proofs.triangulation.tri_of.Goals as goal

pub unreachable-requires : goal.unreachable-requires
unreachable-requires c =
    ∥∥₁_elim c.requires ⊥_prop (λ (m : IsMade c.args.f.now c.args.code.now).
    let own : IsCode c.args.f.now m.0 c.numbers-numbers.result.now = subst (IsCode c.args.f.now m.0) (sym c.numbers-numbers.ensures) m.2 in
    c.triangles_of.ensures.none c.in_default.is (code_long c.args.f.now m.0 c.numbers-numbers.result.now m.1 own))

pub known-requires : goal.known-requires
known-requires c =
    let d : ℕ = c.args.f.now in
    let same : c.in-Ok.halves.items ≡ canonical d c.args.code.now = c.in-Ok.ensures.halves ∙ canonical_same d c.numbers-numbers.result.now ∙ ap (canonical d) c.numbers-numbers.ensures in
    let valid : IsTriangulation d (canonical d c.args.code.now) =
    ∥∥₁_elim c.requires (triangulation_prop d (canonical d c.args.code.now)) (λ (m : IsMade c.args.f.now c.args.code.now).
    canonical_valid d c.number-number.ensures.valid m.0 m.2.start c.args.code.now m.1 m.2.inside m.2.serial) in
    subst (IsTriangulation d) (sym same) valid

pub unreachable-requires-in-Err-Twin : goal.unreachable-requires-in-Err-Twin
unreachable-requires-in-Err-Twin c =
    ∥∥₁_elim c.requires ⊥_prop (λ (m : IsMade c.args.f.now c.args.code.now).
    let own : IsCode c.args.f.now m.0 c.numbers-numbers.result.now = subst (IsCode c.args.f.now m.0) (sym c.numbers-numbers.ensures) m.2 in
    let w = c.in-Err-Twin.ensures.twin c.in-Err-Twin.field-0-is in
    w.2 (code_twins c.args.f.now m.0 c.numbers-numbers.result.now m.1 own w.0 (subst (λ (n : ℕ). w.0 < n) (sym (ap unsigned_abs c.in-Some.ensures.first)) w.1)))

pub unreachable-requires-in-Err-Third : goal.unreachable-requires-in-Err-Third
unreachable-requires-in-Err-Third c =
    ∥∥₁_elim c.requires ⊥_prop (λ (m : IsMade c.args.f.now c.args.code.now).
    let fit : ThirdVectorsFit c.args.f.now c.numbers-numbers.result.now = subst (λ (l : List ℤ). ThirdVectorsFit c.args.f.now l) (sym c.numbers-numbers.ensures) m.3 in
    let w = c.in-Err-Third.ensures.third c.in-Err-Third.field-0-is in
    w.2 (third_listed c.args.f.now c.numbers-numbers.result.now w.0 (subst (λ (n : ℕ). w.0 < n) (sym (ap unsigned_abs c.in-Some.ensures.first)) w.1) fit))

pub returns-in-Ok : goal.returns-in-Ok
returns-in-Ok c =
    let d : ℕ = c.args.f.now in
    let same : c.in-Ok.halves.items ≡ canonical d c.args.code.now = c.in-Ok.ensures.halves ∙ canonical_same d c.numbers-numbers.result.now ∙ ap (canonical d) c.numbers-numbers.ensures in
    c.known.ensures ∙ ap (λ (l : List Half). let t : Triangulation = record { field = d; halves = l } in t) same
