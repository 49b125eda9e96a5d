use Rattle.std.proofs.Common.{ap, slice_get}
use Rattle.wall_steal.proofs.frontier.find_first.Goals as goal

pub returns-clause-first : goal.returns-clause-first
returns-clause-first g c = (_, ap (λ l. slice_get l 0) c.in-Ok-push_front.ensures.items, ap g.T.Key.Numbers.numbers c.in-Ok.ensures.cases)
