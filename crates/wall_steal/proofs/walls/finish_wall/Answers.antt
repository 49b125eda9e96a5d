use Rattle.std.proofs.Common.{◌∙◌, sym, ap}
use Rattle.std.specs.Arc.{arc_value}
use Rattle.receipt_log.specs.Logs.{seen_by, place_of}
use Rattle.wall_steal.proofs.Crossed.{slot_has_wall, target_reached, target_own, read_at, leads_same}
use Rattle.wall_steal.proofs.walls.finish_wall.Goals as goal

pub meet_target-requires-clause-own : goal.meet_target-requires-clause-own
meet_target-requires-clause-own g c κs within =
    let laws = g.met.T.Terrain g.world.𝓛 g.world.𝓜 g.world.𝓡 ((λ s x. x), (λ x. x), (λ x. x), λ x. x) in
    let numbers = g.T.Key.Numbers.numbers in
    let t = g.N.Naming.terrain in
    let ticket = c.args.ticket in
    let k = numbers (arc_value ticket.key) in
    let has = slot_has_wall (g.T.Terrain.has_walls t) (laws.walls_agree t) (laws.walls_proofs_agree t) k (seen_by ticket.source) (place_of ticket.source) ticket.wall _ ticket.slot in
    target_own (g.T.Terrain.has_walls t) (g.T.Terrain.leads t) g.N.Naming.root k (numbers c.in_ok-ticket.target) ticket.wall c.in_ok-ticket.link has c.in_ok-ticket.ensures.leads (g.T.Terrain.is_own t) (laws.leads_own t) ticket.own

pub meet_target-requires-clause-reached : goal.meet_target-requires-clause-reached
meet_target-requires-clause-reached g c κs within =
    let laws = g.met.T.Terrain g.world.𝓛 g.world.𝓜 g.world.𝓡 ((λ s x. x), (λ x. x), (λ x. x), λ x. x) in
    let numbers = g.T.Key.Numbers.numbers in
    let t = g.N.Naming.terrain in
    let ticket = c.args.ticket in
    let k = numbers (arc_value ticket.key) in
    let has = slot_has_wall (g.T.Terrain.has_walls t) (laws.walls_agree t) (laws.walls_proofs_agree t) k (seen_by ticket.source) (place_of ticket.source) ticket.wall _ ticket.slot in
    target_reached (g.T.Terrain.has_walls t) (g.T.Terrain.leads t) g.N.Naming.root k (numbers c.in_ok-ticket.target) ticket.wall c.in_ok-ticket.link has c.in_ok-ticket.ensures.leads ticket.reached

pub fill-requires-clause-shard : goal.fill-requires-clause-shard
fill-requires-clause-shard g c κs within =
    let receipt = c.in_ok-ticket-2.receipt in
    ap g.T.Terrain.shard (read_at (seen_by receipt) (place_of receipt) _ c.in_ok-ticket-2.ensures.receipt.1) ∙ sym c.shard_of-shard.ensures

pub fill-requires-clause-leads : goal.fill-requires-clause-leads
fill-requires-clause-leads g c κs within =
    let numbers = g.T.Key.Numbers.numbers in
    let receipt = c.in_ok-ticket-2.receipt in
    let same = c.in_ok-ticket.ensures.same in
    let met = c.in_ok-ticket-2.ensures.ticket in
    leads_same (g.T.Terrain.leads g.N.Naming.terrain) _ _ _ _ _ _ c.in_ok-ticket.link
    (ap (λ a. numbers (arc_value a)) met.0 ∙ ap (λ x. numbers (arc_value x.key)) same)
    (met.1 ∙ ap (λ x. x.wall) same)
    (read_at (seen_by receipt) (place_of receipt) _ c.in_ok-ticket-2.ensures.receipt.1)
    c.in_ok-ticket.ensures.leads
