use Rattle.std.proofs.Common.{◌≡◌}
use Rattle.walls_out.specs.Seats.{count_of, view_of}
use Rattle.wall_steal.specs.Deques.{HasRoom}
use Rattle.wall_steal.specs.Frontiers.{AreFound}
use Rattle.wall_steal.proofs.workers.work.Given as goal

abbrev pub invariant-loop : goal.invariant-loop
invariant-loop g l = record {
  count : count_of l.seat ≡ g.N.Naming.count;
  seat : view_of l.seat ≡ view_of l.fn.seat;
  room : HasRoom l.hands;
  found : AreFound (g.T.Terrain.are_walls g.N.Naming.terrain) g.T.Key.Numbers.numbers l.frontier.items;
}
