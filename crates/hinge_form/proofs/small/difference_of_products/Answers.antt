use Rattle.hinge_form.proofs.SmallHinges.{third_stands, two_stand, three_stand}
use Rattle.hinge_form.proofs.small.difference_of_products.Goals as goal

pub overflow_sub-result : goal.overflow_sub-result
overflow_sub-result c =
    (two_stand c.args.p c.args.u c.args.q c.args.v c.args.r c.args.w c.requires.weights.0 c.requires.weights.1 c.requires.weights.2 c.requires.coordinates.0 c.requires.coordinates.1 c.requires.coordinates.2).fits

pub overflow_mul-result-3 : goal.overflow_mul-result-3
overflow_mul-result-3 c =
    (third_stands c.args.p c.args.u c.args.q c.args.v c.args.r c.args.w c.requires.weights.0 c.requires.weights.1 c.requires.weights.2 c.requires.coordinates.0 c.requires.coordinates.1 c.requires.coordinates.2).fits

pub overflow_sub-result-2 : goal.overflow_sub-result-2
overflow_sub-result-2 c =
    (three_stand c.args.p c.args.u c.args.q c.args.v c.args.r c.args.w c.requires.weights.0 c.requires.weights.1 c.requires.weights.2 c.requires.coordinates.0 c.requires.coordinates.1 c.requires.coordinates.2).fits

pub returns-clause-exact : goal.returns-clause-exact
returns-clause-exact c =
    (three_stand c.args.p c.args.u c.args.q c.args.v c.args.r c.args.w c.requires.weights.0 c.requires.weights.1 c.requires.weights.2 c.requires.coordinates.0 c.requires.coordinates.1 c.requires.coordinates.2).exact

pub returns-clause-within : goal.returns-clause-within
returns-clause-within c =
    (three_stand c.args.p c.args.u c.args.q c.args.v c.args.r c.args.w c.requires.weights.0 c.requires.weights.1 c.requires.weights.2 c.requires.coordinates.0 c.requires.coordinates.1 c.requires.coordinates.2).within
