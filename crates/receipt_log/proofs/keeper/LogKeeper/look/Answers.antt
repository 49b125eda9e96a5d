use Rattle.std.proofs.Common.{ap, arith}
use Rattle.receipt_log.proofs.Steps.{looks}
use Rattle.receipt_log.proofs.keeper.LogKeeper.look.Goals as goal

pub load-requires : goal.load-requires
load-requires g c = let k = c.args.self.now in (k.own, omega (arith, k.one), looks _ _ _ _ (ap (λ v. v.keeps) k.view))
