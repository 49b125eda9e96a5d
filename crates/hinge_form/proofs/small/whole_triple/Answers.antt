use Rattle.hinge_form.proofs.SmallHinges.{triple_of_parts}
use Rattle.hinge_form.specs.Small.{coordinates}
use Rattle.hinge_form.proofs.small.whole_triple.Goals as goal

pub returns : goal.returns
returns c =
    triple_of_parts (coordinates c.args.a) (coordinates c.args.c) (coordinates c.args.d)
    (coordinates c.turn_times-x.result) (coordinates c.turn_times-y.result) (coordinates c.turn_times-z.result)
    c.requires.first c.requires.second c.requires.third c.turn_times-x.ensures.within c.turn_times-y.ensures.within c.turn_times-z.ensures.within
    c.difference_of_products-alpha.result c.difference_of_products-half.result c.difference_of_products-gamma.result
    c.difference_of_products-alpha.ensures.within c.difference_of_products-half.ensures.within c.difference_of_products-gamma.ensures.within
    c.turn_times-x.ensures.exact c.turn_times-y.ensures.exact c.turn_times-z.ensures.exact
    c.difference_of_products-alpha.ensures.exact c.difference_of_products-half.ensures.exact c.difference_of_products-gamma.ensures.exact
    c.whole.result c.whole-2.result c.whole-3.result c.whole.ensures c.whole-2.ensures c.whole-3.ensures
