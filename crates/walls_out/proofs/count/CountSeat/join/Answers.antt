use Rattle.std.proofs.Common.{arith}
use Rattle.walls_out.proofs.Steps.{joins}
use Rattle.walls_out.proofs.count.CountSeat.join.Goals as goal

pub join_seat-requires : goal.join_seat-requires
join_seat-requires c = (c.requires.name.0, c.requires.name.1, c.args.other.empty, omega (arith, c.args.count.now.one), joins _ _ _ _ c.requires.plain)
