use Rattle.std.proofs.Common.{◌∙◌, sym, subst}
use Rattle.quad_field.specs.FieldNumber.{IsFieldNumber}
use Rattle.hinge_form.proofs.CallerLemmas.{place_inside}
use Rattle.delaunay_flip.proofs.Endings.{EndsThere, one_ending, complete_from}
use Rattle.delaunay_flip.proofs.bases.base_of.Goals as goal

pub returns-clause-complete : goal.returns-clause-complete
returns-clause-complete c =
    let d = c.args.tri.now.field in
    let field : IsFieldNumber d = subst IsFieldNumber c.requires.field c.is_valid.ensures.number in
    complete_from c.args.tri.now (EndsThere c.args.tri.now c.args.at.now c.args.flips) c.flipped.result
    (λ at to e f a b. (a.0 ∙ sym b.0, one_ending d field c.args.tri.now.halves c.is_valid.ensures.valid c.args.at.now (place_inside d c.args.at.now c.requires.point) c.args.flips e f a.1 b.1))
    c.flipped.ensures
