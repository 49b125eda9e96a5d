use Rattle.std.proofs.Common.{◌≡◌, ◌∙◌, ◌++◌, ◌∷◌, [], ℕ, suc, length, drop, sym, ap, arith}
use Rattle.std.specs.Vec.Iter.{into_iter_items}
use Rattle.std.proofs.lemmas.List.{length-append}
use Rattle.std.proofs.lemmas.Iterator.Adapters.{YieldsList-from_vec}
use Rattle.std.proofs.lemmas.Iterator.Consumers.{YieldsList-turn}
use Rattle.explore_shared.specs.Workers.{IsReady}
use Rattle.explore_shared.proofs.Leads.{at_turn}
use Rattle.explore_shared.proofs.Stored.{drop_at}
use Rattle.explore_shared.proofs.Team.{each_snoc}
use Rattle.explore_shared.proofs.run.workers_of.Goals as goal

pub loop-hands-preserved : goal.loop-hands-preserved
loop-hands-preserved g c =
    let inv = c.loop-hands.invariant in
    let yielded = c.loop-hands.yielded in
    let hands = c.in-Some.hands in
    let seat = c.in-Some-next.seat in
    let all = c.args.hands in
    let gives = c.into_iter-hands-iterator.ensures.into_iter_gives in
    let t = YieldsList-turn (YieldsList-from_vec {s = c.into_iter-hands-iterator.result} all.items gives.0 (gives.1 ∙ all.ok.0)) yielded c.loop-hands.hands-iterator c.loop-hands.yielded_by c.next.result c.next.new.self hands c.in-Some.is c.next.ensures.steps in
    let at = at_turn all.items (length yielded) hands t in
    let left = into_iter_items c.next-in-loop-hands.new.self in
    let next : drop (length yielded) c.args.seats.items ≡ seat ∷ left = sym inv.rest ∙ c.in-Some-next.ensures.items in
    let d = drop_at c.args.seats.items (length yielded) seat left next in
    let s = c.requires.seats (length yielded) seat d.0 in
    let one : suc (length yielded) ≡ length (yielded ++ hands ∷ []) = (let l = length-append yielded (hands ∷ []) in omega arith) in
    record {
      rest = sym d.1 ∙ ap (λ (m : ℕ). drop m c.args.seats.items) one;
      len = (let p = c.in_ok-push.ensures.len in let k = inv.len in omega arith);
      ready = each_snoc (IsReady g.N.Naming.count) c.loop-hands.workers.items c.push.new.self.items _ c.in_ok-push.ensures.items inv.ready (record { counted = s.0; keeper = s.1.0; fresh = s.1.1; room = c.requires.room (length yielded) hands at });
    }
