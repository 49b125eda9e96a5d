use Rattle.std.proofs.Common.{ap, arith, ◌∙◌}
use Rattle.receipt_log.proofs.Prefixes.{entry_in}
use Rattle.receipt_log.proofs.Steps.{copies, takes_in, looks, met}
use Rattle.receipt_log.proofs.keeper.LogKeeper.meet.Goals as goal

pub split_seat-copy-requires : goal.split_seat-copy-requires
split_seat-copy-requires g c = let k = c.args.self.now in (c.requires ∙ k.own, omega (arith, k.one), copies _ _ (ap (λ v. v.keeps) c.args.receipt.now.view))

pub join_seat-requires : goal.join_seat-requires
join_seat-requires g c =
    let k = c.args.self.now in
    let copy = c.split_seat-copy.ensures in
    (k.own, copy.3 ∙ c.requires ∙ k.own, ap (λ m. m.1) copy.4, omega (arith, k.one), takes_in _ _ _ _ (ap (λ v. v.keeps) k.view) (ap (λ m. m.0.keeps) copy.4 ∙ ap (λ v. v.keeps) c.args.receipt.now.view))

pub load-requires : goal.load-requires
load-requires g c =
    let k = c.args.self.now in
    let j = c.join_seat.ensures in
    (j.0 ∙ k.own, omega (arith, k.one), looks _ _ _ _ (ap (λ m. m.0.keeps) j.2 ∙ ap (λ v. v.keeps) k.view))

pub returns-clause-prefix : goal.returns-clause-prefix
returns-clause-prefix g c =
    let k = c.args.self.now.seat.me in
    let copy = ap (λ m. m.0) c.split_seat-copy.ensures.4 in
    rw (← copy) (met k.0 c.split_seat-copy.result.me.0 c.join_seat.new.seat.me c.load.new.seat.me c.load.result k.1 c.join_seat.ensures.2 c.load.ensures.2)

pub returns-clause-entry : goal.returns-clause-entry
returns-clause-entry g c =
    let r = c.args.receipt.now in
    entry_in r.seat.me.0.list c.args.self.now.seat.me.0.list r.place (returns-clause-prefix g c) r.within
