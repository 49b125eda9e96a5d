use Rattle.std.proofs.Common.{◌^◌, arith}
use Rattle.hinge_form.specs.Small.{quad_of}
use Rattle.hinge_form.proofs.RootHinges.{product_small, difference_small}
use Rattle.hinge_form.proofs.rooted.turn.Goals as goal

pub difference-requires-clause-first : goal.difference-requires-clause-first
difference-requires-clause-first c =
    product_small c.args.d (2 ^ 12) (2 ^ 12) (2 ^ 61) (quad_of c.args.u.s) (quad_of c.args.v.t) (quad_of c.product-first.result) c.requires.field c.product-first.ensures c.requires.first.0 c.requires.second.1 (omega arith)

pub difference-requires-clause-second : goal.difference-requires-clause-second
difference-requires-clause-second c =
    product_small c.args.d (2 ^ 12) (2 ^ 12) (2 ^ 61) (quad_of c.args.u.t) (quad_of c.args.v.s) (quad_of c.product-second.result) c.requires.field c.product-second.ensures c.requires.first.1 c.requires.second.0 (omega arith)

pub returns-clause-within : goal.returns-clause-within
returns-clause-within c =
    let first = product_small c.args.d (2 ^ 12) (2 ^ 12) (2 ^ 34) (quad_of c.args.u.s) (quad_of c.args.v.t) (quad_of c.product-first.result) c.requires.field c.product-first.ensures c.requires.first.0 c.requires.second.1 (omega arith) in
    let second = product_small c.args.d (2 ^ 12) (2 ^ 12) (2 ^ 34) (quad_of c.args.u.t) (quad_of c.args.v.s) (quad_of c.product-second.result) c.requires.field c.product-second.ensures c.requires.first.1 c.requires.second.0 (omega arith) in
    difference_small 0 (2 ^ 34) (2 ^ 34) (2 ^ 35) (quad_of c.product-first.result) (quad_of c.product-second.result) (quad_of c.difference.result) c.difference.ensures first second (omega arith)
