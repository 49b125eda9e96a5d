use Rattle.std.proofs.Common.{◌≡◌, ◌+◌, vec_len}
use Rattle.wall_steal.specs.Deques.{puts_of, HasRoom}
use Rattle.wall_steal.proofs.walls.put_all.Given as goal

abbrev pub invariant-loop-ticket : goal.invariant-loop-ticket
invariant-loop-ticket g l = record {
  put : puts_of l.hands + vec_len l.tickets ≡ puts_of l.fn.hands + vec_len l.fn.tickets;
  room : HasRoom l.fn.hands → HasRoom l.hands;
}

abbrev pub decreases-loop-ticket : goal.decreases-loop-ticket
decreases-loop-ticket g l = vec_len l.tickets
