use Rattle.std.proofs.Common.{arith}
use Rattle.walls_out.proofs.Steps.{lowers_root}
use Rattle.walls_out.proofs.count.CountSeat.lower_root.Goals as goal

pub fetch_sub-requires : goal.fetch_sub-requires
fetch_sub-requires c = (c.requires.name, omega (arith, c.args.count.now.one), lowers_root _ _ _ _ c.requires.own)
