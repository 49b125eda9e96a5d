use Rattle.std.proofs.Common.{◌≡◌, ℕ, List, sym, ap, subst, ◌∙◌}
use Rattle.std.proofs.lemmas.Result.{err_from_is_err_and}
use Rattle.plane.specs.Matrices.{rows_of}
use Rattle.tri_core.specs.declared.half.Half.{Half}
use Rattle.tri_core.specs.Triangulation.{Triangulation, IsTriangulation}
use Rattle.tri_core.specs.Mapped.{AreMapped, ImagesFit}
use Rattle.tri_core.proofs.Mapped.{mapped_valid, mapped_image}
use Rattle.tri_core.proofs.tri.Tri.image.Goals as goal

pub returns-in_err-halves-clause-wide : goal.returns-in_err-halves-clause-wide
returns-in_err-halves-clause-wide c =
    let p = err_from_is_err_and c.from_residual.result c.from_residual.ensures.1 in
    let items : c.as_slice.result.now ≡ c.args.self.now.halves = c.as_slice.ensures.value ∙ ap (λ (t : Triangulation). t.halves) c.self.view_is in
    rw (p.1, p.2) (λ wide fit. c.in_err-halves.ensures.wide wide (subst (λ (l : List Half). ImagesFit c.args.f.now (rows_of c.args.n.now) l) (sym items) fit))

pub invariant_of-result : goal.invariant_of-result
invariant_of-result c =
    let d : ℕ = c.args.f.now in
    let n = rows_of c.args.n.now in
    let field : c.self.inside.field ≡ d = ap (λ (t : Triangulation). t.field) c.self.view_is ∙ sym c.requires.field in
    let valid : IsTriangulation d c.self.inside.halves.items = subst (λ (e : ℕ). IsTriangulation e c.self.inside.halves.items) field c.self.invariant in
    let are : AreMapped d n c.self.inside.halves.items c.in_ok-halves.halves.items =
    subst (λ (l : List Half). AreMapped d n l c.in_ok-halves.halves.items) c.as_slice.ensures.value c.in_ok-halves.ensures.mapped in
    rw c.number.ensures.number (mapped_valid d n c.self.inside.halves.items c.in_ok-halves.halves.items are c.number.ensures.valid c.requires.positive valid)

pub returns-clause-image : goal.returns-clause-image
returns-clause-image c =
    let items : c.as_slice.result.now ≡ c.args.self.now.halves = c.as_slice.ensures.value ∙ ap (λ (t : Triangulation). t.halves) c.self.view_is in
    mapped_image c.args.f.now (rows_of c.args.n.now) c.args.self.now.halves c.in_ok-halves.halves.items
    (subst (λ (l : List Half). AreMapped c.args.f.now (rows_of c.args.n.now) l c.in_ok-halves.halves.items) items c.in_ok-halves.ensures.mapped)
