use Rattle.std.proofs.Common.{◌≡◌, length, arith}
use Rattle.tri_core.proofs.Translations.{are_glued, carried_answers}
use Rattle.tri_core.proofs.equality.are_translation_equal.Goals as goal

pub are_carried-requires-clause-one : goal.are_carried-requires-clause-one
are_carried-requires-clause-one c = rw c.halves.ensures.halves (are_glued c.args.from.now.field c.args.from.now.halves c.halves.ensures.valid)

pub are_carried-requires-clause-two : goal.are_carried-requires-clause-two
are_carried-requires-clause-two c = rw c.halves-2.ensures.halves (are_glued c.args.to.now.field c.args.to.now.halves c.halves-2.ensures.valid)

pub returns : goal.returns
returns c =
    let count : length c.args.to.now.halves ≡ length c.args.from.now.halves = omega (arith, c.if-triangles.false, c.triangles.ensures.count, c.triangles-2.ensures.count) in
    carried_answers c.args.from.now.field c.args.to.now.field c.args.from.now.halves c.args.to.now.halves c.halves.result.now c.halves-2.result.now c.are_carried.result
    c.halves.ensures.halves c.halves-2.ensures.halves c.requires c.halves.ensures.valid c.halves-2.ensures.valid count c.are_carried.ensures
