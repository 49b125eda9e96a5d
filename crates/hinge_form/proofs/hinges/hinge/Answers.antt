use Rattle.std.proofs.Common.{◌≡◌, subst, sym}
use Rattle.quad_field.specs.FieldNumber.{IsFieldNumber}
use Rattle.hinge_form.specs.Triples.{Triple, zeros}
use Rattle.hinge_form.proofs.Hinged.{full_some}
use Rattle.hinge_form.proofs.hinges.hinge.Goals as goal

pub reduced-requires : goal.reduced-requires
reduced-requires c =
    let tri = c.args.tri.now in
    subst (λ (l : Triple). ¬ (l ≡ zeros)) (sym c.in-Ok.ensures.exact)
    (full_some tri.field tri.halves c.args.edge c.is_valid.ensures.valid c.requires.edge.0 (subst IsFieldNumber c.requires.field c.is_valid.ensures.number))
