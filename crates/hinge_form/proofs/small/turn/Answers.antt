use Rattle.hinge_form.proofs.SmallHinges.{turn_stands}
use Rattle.hinge_form.proofs.small.turn.Goals as goal

pub overflow_sub-result : goal.overflow_sub-result
overflow_sub-result c = (turn_stands c.args.u.s c.args.v.t c.args.u.t c.args.v.s c.requires.first.0 c.requires.second.1 c.requires.first.1 c.requires.second.0).fits

pub returns-clause-exact : goal.returns-clause-exact
returns-clause-exact c = (turn_stands c.args.u.s c.args.v.t c.args.u.t c.args.v.s c.requires.first.0 c.requires.second.1 c.requires.first.1 c.requires.second.0).exact

pub returns-clause-within : goal.returns-clause-within
returns-clause-within c = (turn_stands c.args.u.s c.args.v.t c.args.u.t c.args.v.s c.requires.first.0 c.requires.second.1 c.requires.first.1 c.requires.second.0).within
