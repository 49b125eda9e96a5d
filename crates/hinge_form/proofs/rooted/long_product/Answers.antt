use Rattle.std.proofs.Common.{refl}
use Rattle.std.specs.Prelude.{◌*ℤ◌}
use Rattle.hinge_form.specs.Small.{quad_of}
use Rattle.hinge_form.proofs.SmallHinges.{read}
use Rattle.hinge_form.proofs.RootHinges.{whole_small, root_small, long_read}
use Rattle.hinge_form.proofs.rooted.long_product.Goals as goal

pub plus-requires : goal.plus-requires
plus-requires c =
    let x = quad_of c.args.x in
    let y = quad_of c.args.y in
    whole_small c.args.d x y c.from.result c.requires.field c.requires.first c.requires.second c.from.ensures
    c.times.result c.times-2.result (read x.a *ℤ read y.b) (read x.b *ℤ read y.a) c.times.ensures c.times-2.ensures refl refl

pub plus-requires-2 : goal.plus-requires-2
plus-requires-2 c =
    root_small c.args.d (quad_of c.args.x) (quad_of c.args.y) c.from.result c.requires.field c.requires.first c.requires.second c.from.ensures
    c.times.result c.times-2.result c.times-3.result c.times-4.result c.times.ensures c.times-2.ensures c.times-3.ensures c.times-4.ensures

pub returns : goal.returns
returns c =
    long_read c.args.d (quad_of c.args.x) (quad_of c.args.y) c.from.result c.requires.field c.requires.first c.requires.second c.from.ensures
    c.times.result c.times-2.result c.times-3.result c.times-4.result c.times.ensures c.times-2.ensures c.times-3.ensures c.times-4.ensures
    c.plus.result c.plus-2.result c.plus.ensures c.plus-2.ensures
