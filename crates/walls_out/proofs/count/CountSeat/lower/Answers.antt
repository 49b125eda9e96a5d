use Rattle.std.proofs.Common.{arith}
use Rattle.walls_out.proofs.Steps.{lowers}
use Rattle.walls_out.proofs.count.CountSeat.lower.Goals as goal

pub fetch_sub-requires : goal.fetch_sub-requires
fetch_sub-requires c = let o = c.requires.own in (c.requires.name, omega (arith, c.args.count.now.one), lowers _ _ o.0 o.1 _ _ o.2 o.3)
