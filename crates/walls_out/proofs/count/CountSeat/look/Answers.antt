use Rattle.std.proofs.Common.{arith}
use Rattle.walls_out.proofs.Steps.{looks}
use Rattle.walls_out.proofs.count.CountSeat.look.Goals as goal

pub load-requires : goal.load-requires
load-requires c = (c.requires, omega (arith, c.args.count.now.one), looks _ _ _ _)
