use Rattle.std.proofs.Common.{arith}
use Rattle.receipt_log.proofs.Steps.{notes}
use Rattle.receipt_log.proofs.keeper.LogKeeper.note_named.Goals as goal

pub split_seat-seat-requires : goal.split_seat-seat-requires
split_seat-seat-requires g c = let k = c.args.self.now in (k.own, omega (arith, k.one), notes _ _ _ (omega (arith, c.requires.within, c.requires.place)))
