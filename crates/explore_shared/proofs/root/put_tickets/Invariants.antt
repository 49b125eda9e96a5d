use Rattle.std.proofs.Common.{vec_len}
use Rattle.wall_steal.specs.Deques.{HasRoom}
use Rattle.explore_shared.proofs.root.put_tickets.Given as goal

abbrev pub invariant-loop-ticket : goal.invariant-loop-ticket
invariant-loop-ticket g l = HasRoom l.fn.hands → HasRoom l.hands

abbrev pub decreases-loop-ticket : goal.decreases-loop-ticket
decreases-loop-ticket g l = vec_len l.tickets
