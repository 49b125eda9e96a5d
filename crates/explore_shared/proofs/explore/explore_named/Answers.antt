use Rattle.std.proofs.Common.{◌≡◌, ◌+◌, ◌<◌, ◌∙◌, ℕ, List, Err, length, refl, sym, ap, subst, arith, ⊎_elim}
use Rattle.std.proofs.lemmas.Option.{slice_get_read}
use Rattle.std.proofs.lemmas.Result.{err_from_is_err_and}
use Rattle.terrain.specs.declared.graph.ExploreFault.TheVariants.{Fault, Limit}
use Rattle.terrain.specs.Causes.{MoreAreReached}
use Rattle.terrain.specs.Places.{IsAt}
use Rattle.terrain.proofs.CallerLemmas.{at_set}
use Rattle.walls_out.specs.declared.count.CountSeat.{CountSeat}
use Rattle.wall_steal.specs.Deques.{HasRoom}
use Rattle.explore_shared.proofs.Ends.{err_is}
use Rattle.explore_shared.proofs.Team.{at_take, at_drop}
use Rattle.explore_shared.proofs.explore.explore_named.Goals as goal

pub start-requires-clause-keepers : goal.start-requires-clause-keepers
start-requires-clause-keepers g c κs within b s at = c.requires.seats.1 b s (at_take c.args.seats.items 16 b s (subst (λ (l : List CountSeat). IsAt l b s) c.in_ok-own_seats.ensures.items at))

pub workers_of-requires-clause-room : goal.workers_of-requires-clause-room
workers_of-requires-clause-room g c κs within i h at =
    let hands = c.in-Ok.hands in
    let first : IsAt hands.items 0 c.index_mut.result.now = slice_get_read hands.items (length hands.items) 0 c.index_mut.result.now refl (let w = c.requires.workers.0 in let l = c.in-Ok.ensures.len in let v = hands.ok.0 in omega arith) c.index_mut.ensures.value in
    ⊎_elim
    (λ (p : (i ≡ 0) × (c.enter_root.new.hands ≡ h)). subst (λ x. HasRoom x) p.1 (c.in_ok-receipt.ensures.room (c.in-Ok.ensures.room 0 c.index_mut.result.now first)))
    (λ (p : (i ≡ 0 → ⊥) × IsAt hands.items i h). c.in-Ok.ensures.room i h p.1)
    (at_set hands.items 0 i c.enter_root.new.hands h at)

pub workers_of-requires-clause-seats : goal.workers_of-requires-clause-seats
workers_of-requires-clause-seats g c κs within i s at =
    let q = c.requires.seats.1 (16 + i) s (at_drop c.args.seats.items 16 i (16 + i) s refl (subst (λ (l : List CountSeat). IsAt l i s) c.in_ok-own_seats.ensures.tail at)) in
    (q.0, (16 + i, q.1))

pub graph_of-requires-clause-root : goal.graph_of-requires-clause-root
graph_of-requires-clause-root g c κs within =
    let laws = g.met.T.Terrain g.world.𝓛 g.world.𝓜 g.world.𝓡 ((λ s x. x), (λ x. x), (λ x. x), λ x. x) in
    let same : g.T.Terrain.shard g.N.Naming.root ≡ c.shard_of.result = sym (c.shard_of.ensures ∙ ap g.T.Terrain.shard c.requires.names.1) in
    let r = c.in_ok-receipt.ensures.receipt in
    (r.0 ∙ ap g.N.Naming.logs same, subst (λ (n : ℕ). n < 16) same (laws.shard_low g.N.Naming.root), r.1)

pub returns-in_err-receipt-clause-limit : goal.returns-in_err-receipt-clause-limit
returns-in_err-receipt-clause-limit g c e =
    let p = err_from_is_err_and c.from_residual-in_err-receipt.result c.from_residual-in_err-receipt.ensures.1 in
    let f = err_is c.from_residual-in_err-receipt.result p.0 c.in_err-receipt.field-0.0 Limit p.1 p.2 e in
    c.in_err-receipt.ensures.limit (ap (λ x. Err x) f)

pub returns-in_err-receipt-clause-fault : goal.returns-in_err-receipt-clause-fault
returns-in_err-receipt-clause-fault g c key fault e =
    let p = err_from_is_err_and c.from_residual-in_err-receipt.result c.from_residual-in_err-receipt.ensures.1 in
    let f = err_is c.from_residual-in_err-receipt.result p.0 c.in_err-receipt.field-0.0 (Fault key fault) p.1 p.2 e in
    c.in_err-receipt.ensures.fault key fault (ap (λ x. Err x) f)

pub returns-in_err-seen-clause-limit : goal.returns-in_err-seen-clause-limit
returns-in_err-seen-clause-limit g c e =
    let p = err_from_is_err_and c.from_residual-in_err-seen.result c.from_residual-in_err-seen.ensures.1 in
    let f = err_is c.from_residual-in_err-seen.result p.0 c.in_err-seen.field-0.0 Limit p.1 p.2 e in
    subst (λ (n : ℕ). MoreAreReached (g.T.Terrain.has_walls g.N.Naming.terrain) (g.T.Terrain.leads g.N.Naming.terrain) g.N.Naming.root n) (sym c.requires.names.2) (c.in_err-seen.ensures.limit (ap (λ x. Err x) f))

pub returns-in_err-seen-clause-fault : goal.returns-in_err-seen-clause-fault
returns-in_err-seen-clause-fault g c key fault e =
    let p = err_from_is_err_and c.from_residual-in_err-seen.result c.from_residual-in_err-seen.ensures.1 in
    let f = err_is c.from_residual-in_err-seen.result p.0 c.in_err-seen.field-0.0 (Fault key fault) p.1 p.2 e in
    c.in_err-seen.ensures.fault key fault (ap (λ x. Err x) f)
