use Rattle.std.proofs.Common.{arith}
use Rattle.walls_out.proofs.Steps.{raises}
use Rattle.walls_out.proofs.count.CountSeat.raise.Goals as goal

pub fetch_add-requires : goal.fetch_add-requires
fetch_add-requires c = (c.requires.name, omega (arith, c.args.count.now.one), raises _ _ _ c.requires.keeper.0 _ _ c.requires.keeper.1 c.requires.owes c.requires.few)
