use Rattle.std.proofs.Common.{◌≡◌, drop}
use Rattle.wall_steal.proofs.frontier.drop_first.Given as goal

abbrev pub invariant-loop-i : goal.invariant-loop-i
invariant-loop-i g l = l.frontier.items ≡ drop l._i l.fn.frontier.items
