use Rattle.std.proofs.Common.{subst}
use Rattle.quad_field.specs.FieldNumber.{IsFieldNumber}
use Rattle.delaunay_flip.specs.Bases.{EndsListed}
use Rattle.delaunay_flip.proofs.Endings.{complete_from}
use Rattle.delaunay_flip.proofs.Listing.{one_listed}
use Rattle.delaunay_flip.proofs.bases.base_listed.Goals as goal

pub returns-clause-complete : goal.returns-clause-complete
returns-clause-complete c =
    let d = c.args.tri.now.field in
    let field : IsFieldNumber d = subst IsFieldNumber c.requires.field c.is_valid.ensures.number in
    complete_from c.args.tri.now (EndsListed d c.args.tri.now.halves c.args.points.now c.args.flips) c.tried.result
    (one_listed d field c.args.tri.now.halves c.is_valid.ensures.valid c.args.points.now c.requires.points c.args.flips)
    c.tried.ensures
