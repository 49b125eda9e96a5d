use Rattle.std.proofs.Common.{◌≡◌, map, take}
use Rattle.wall_steal.specs.Deques.{without, own_deque, deque_behind}
use Rattle.wall_steal.proofs.deques.others_of.Given as goal

abbrev pub invariant-loop-i : goal.invariant-loop-i
invariant-loop-i g l = map deque_behind l.others.items ≡ without l.own (take l.i (map own_deque l.all))
