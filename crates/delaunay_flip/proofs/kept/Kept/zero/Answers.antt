use Rattle.std.proofs.Common.{◌∙◌, ap, subst, sym}
use Rattle.quad_field.specs.FieldNumber.{IsFieldNumber}
use Rattle.hinge_form.specs.Hinges.{place_at}
use Rattle.delaunay_flip.specs.Flipping.{IsZeroAt, IsLeastOrNone}
use Rattle.delaunay_flip.specs.Keeping.{KeptAt}
use Rattle.delaunay_flip.proofs.Keepings.{table_zero}
use Rattle.delaunay_flip.proofs.kept.Kept.zero.Goals as goal

pub returns : goal.returns
returns c =
    let inside = c.self.inside in
    let field : IsFieldNumber inside.tri.field = subst IsFieldNumber (c.requires ∙ sym (ap (λ (k : KeptAt). k.tri.field) c.self.view_is)) c.is_valid.ensures.number in
    subst (λ (k : KeptAt). IsLeastOrNone (IsZeroAt k.tri.field (place_at k.point) k.tri.halves) c.zero.result) c.self.view_is
    (table_zero inside.tri.field (place_at inside.point) inside.tri.halves inside.values c.self.invariant.1 field c.is_valid.ensures.valid c.zero.result c.zero.ensures)
