use Rattle.gluing.specs.Polygons.{vectors}
use Rattle.gluing.proofs.Convex.{once_from_last, never_once}
use Rattle.gluing.proofs.turns.turns_once.Goals as goal

pub returns-in-Some : goal.returns-in-Some
returns-in-Some c = once_from_last c.args.f.now (vectors c.args.sides.now) c.in-Some.i _ c.in-Some.ensures c.is_last_rise.ensures

pub returns-in-None : goal.returns-in-None
returns-in-None c = never_once c.args.f.now (vectors c.args.sides.now) c.in-None.ensures
