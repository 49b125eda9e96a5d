use Rattle.std.proofs.Common.{arith}
use Rattle.walls_out.proofs.Naming.{names_one}
use Rattle.walls_out.proofs.count.CountSeat.name.Goals as goal

pub split_seat-requires : goal.split_seat-requires
split_seat-requires c = let n = c.requires.few in (c.requires.name, omega (arith, c.args.count.now.one), names_one _ n.0 _ n.2 n.1)
