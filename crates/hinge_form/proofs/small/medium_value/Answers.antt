use Rattle.hinge_form.specs.Triples.{of_form, of_place}
use Rattle.hinge_form.proofs.SmallHinges.{products_small, value_read}
use Rattle.hinge_form.proofs.small.medium_value.Goals as goal

pub sum-requires : goal.sum-requires
sum-requires c =
    products_small (of_form c.args.form.now) (of_place c.args.at.now) c.requires.0 c.requires.1
    c.narrow.result c.narrow-2.result c.narrow-3.result c.narrow-4.result c.narrow-5.result c.narrow-6.result
    c.narrow.ensures c.narrow-2.ensures c.narrow-3.ensures c.narrow-4.ensures c.narrow-5.ensures c.narrow-6.ensures
    c.times-first.result c.times-second.result c.times-third.result c.times-first.ensures c.times-second.ensures c.times-third.ensures

pub returns : goal.returns
returns c = λ n.
    value_read n (of_form c.args.form.now) (of_place c.args.at.now) c.requires.0 c.requires.1
    c.narrow.result c.narrow-2.result c.narrow-3.result c.narrow-4.result c.narrow-5.result c.narrow-6.result
    c.narrow.ensures c.narrow-2.ensures c.narrow-3.ensures c.narrow-4.ensures c.narrow-5.ensures c.narrow-6.ensures
    c.times-first.result c.times-second.result c.times-third.result c.times-first.ensures c.times-second.ensures c.times-third.ensures
    c.sum.result c.sum.ensures
