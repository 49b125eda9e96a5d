use Rattle.std.proofs.Common.{◌^◌, arith}
use Rattle.hinge_form.specs.Small.{quad_of}
use Rattle.hinge_form.proofs.RootHinges.{product_small}
use Rattle.hinge_form.proofs.rooted.turn_times.Goals as goal

pub returns-clause-within : goal.returns-clause-within
returns-clause-within c =
    let turn = c.turn-turn in (
      product_small c.args.d (2 ^ 35) (2 ^ 12) (2 ^ 57) (quad_of turn.result) (quad_of c.args.w.s) (quad_of c.product.result) c.requires.field c.product.ensures turn.ensures.within c.requires.third.0 (omega arith),
      product_small c.args.d (2 ^ 35) (2 ^ 12) (2 ^ 57) (quad_of turn.result) (quad_of c.args.w.t) (quad_of c.product-2.result) c.requires.field c.product-2.ensures turn.ensures.within c.requires.third.1 (omega arith),
    )
