use Rattle.std.proofs.Common.{refl, subst}
use Rattle.quad_field.specs.FieldNumber.{IsFieldNumber}
use Rattle.wall_cross.proofs.Members.{listed_inside}
use Rattle.wall_cross.proofs.flips.flip_wall.Goals as goal

pub diagonals_fit-requires-clause-inside : goal.diagonals_fit-requires-clause-inside
diagonals_fit-requires-clause-inside c =
    let d = c.args.tri.now.field in
    let field : IsFieldNumber d = subst IsFieldNumber c.requires.field c.is_valid.ensures.number in
    listed_inside d field c.args.tri.now.halves c.is_valid.ensures.valid c.requires.wall.0 c.args.edges.now c.requires.wall.1

pub flip_all-requires-clause-fits : goal.flip_all-requires-clause-fits
flip_all-requires-clause-fits c = c.if-diagonals_fit.ensures.0 refl
