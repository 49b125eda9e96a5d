use Rattle.std.proofs.Common.{ap, arith}
use Rattle.receipt_log.proofs.Steps.{appends}
use Rattle.receipt_log.proofs.keeper.LogKeeper.append_named.Goals as goal

pub fetch_add-requires : goal.fetch_add-requires
fetch_add-requires g c = let k = c.args.self.now in (k.own, omega (arith, k.one), appends _ _ _ _ _ (ap (λ v. v.keeps) k.view) (ap (λ v. v.place) k.view) c.requires.room)
