use Rattle.std.proofs.Common.{◌^◌, arith}
use Rattle.hinge_form.specs.Small.{quad_of}
use Rattle.hinge_form.proofs.RootHinges.{product_small, difference_small}
use Rattle.hinge_form.proofs.rooted.difference_of_products.Goals as goal

pub long_difference-requires-clause-first : goal.long_difference-requires-clause-first
long_difference-requires-clause-first c =
    product_small c.args.d (2 ^ 57) (2 ^ 12) (2 ^ 120) (quad_of c.args.p) (quad_of c.args.u) c.long_product-first.result c.requires.field c.long_product-first.ensures c.requires.weights.0 c.requires.coordinates.0 (omega arith)

pub long_difference-requires-clause-second : goal.long_difference-requires-clause-second
long_difference-requires-clause-second c =
    product_small c.args.d (2 ^ 57) (2 ^ 12) (2 ^ 120) (quad_of c.args.q) (quad_of c.args.v) c.long_product-second.result c.requires.field c.long_product-second.ensures c.requires.weights.1 c.requires.coordinates.1 (omega arith)

pub long_difference-requires-2-clause-first : goal.long_difference-requires-2-clause-first
long_difference-requires-2-clause-first c =
    let first = product_small c.args.d (2 ^ 57) (2 ^ 12) (2 ^ 80) (quad_of c.args.p) (quad_of c.args.u) c.long_product-first.result c.requires.field c.long_product-first.ensures c.requires.weights.0 c.requires.coordinates.0 (omega arith) in
    let second = product_small c.args.d (2 ^ 57) (2 ^ 12) (2 ^ 80) (quad_of c.args.q) (quad_of c.args.v) c.long_product-second.result c.requires.field c.long_product-second.ensures c.requires.weights.1 c.requires.coordinates.1 (omega arith) in
    difference_small 0 (2 ^ 80) (2 ^ 80) (2 ^ 120) c.long_product-first.result c.long_product-second.result c.long_difference.result c.long_difference.ensures first second (omega arith)

pub long_difference-requires-2-clause-second : goal.long_difference-requires-2-clause-second
long_difference-requires-2-clause-second c =
    product_small c.args.d (2 ^ 57) (2 ^ 12) (2 ^ 120) (quad_of c.args.r) (quad_of c.args.w) c.long_product-third.result c.requires.field c.long_product-third.ensures c.requires.weights.2 c.requires.coordinates.2 (omega arith)

pub returns-clause-within : goal.returns-clause-within
returns-clause-within c =
    let first = product_small c.args.d (2 ^ 57) (2 ^ 12) (2 ^ 80) (quad_of c.args.p) (quad_of c.args.u) c.long_product-first.result c.requires.field c.long_product-first.ensures c.requires.weights.0 c.requires.coordinates.0 (omega arith) in
    let second = product_small c.args.d (2 ^ 57) (2 ^ 12) (2 ^ 80) (quad_of c.args.q) (quad_of c.args.v) c.long_product-second.result c.requires.field c.long_product-second.ensures c.requires.weights.1 c.requires.coordinates.1 (omega arith) in
    let third = product_small c.args.d (2 ^ 57) (2 ^ 12) (2 ^ 80) (quad_of c.args.r) (quad_of c.args.w) c.long_product-third.result c.requires.field c.long_product-third.ensures c.requires.weights.2 c.requires.coordinates.2 (omega arith) in
    let two = difference_small 0 (2 ^ 80) (2 ^ 80) (2 ^ 81) c.long_product-first.result c.long_product-second.result c.long_difference.result c.long_difference.ensures first second (omega arith) in
    difference_small 0 (2 ^ 81) (2 ^ 80) (2 ^ 82) c.long_difference.result c.long_product-third.result c.long_difference-2.result c.long_difference-2.ensures two third (omega arith)
