use Rattle.std.proofs.Common.{arith}
use Rattle.walls_out.proofs.Steps.{moves}
use Rattle.walls_out.proofs.count.CountSeat.split.Goals as goal

pub split_seat-requires : goal.split_seat-requires
split_seat-requires c = (c.requires.name, omega (arith, c.args.count.now.one), moves _ _)
