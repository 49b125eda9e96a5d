use Rattle.std.proofs.Common.{List, sym, subst, inr}
use Rattle.std.specs.Prelude.{ℤ}
use Rattle.std.specs.Arc.{arc_value}
use mathlib.Core.Logic.{∥∥₁_elim}
use Rattle.terrain.specs.Causes.{IsStuckWithin}
use Rattle.receipt_log.specs.Logs.{seen_by, place_of}
use Rattle.wall_steal.proofs.Crossed.{HasWall, slot_has_wall, fault_so}
use Rattle.wall_steal.proofs.walls.cross_first.Goals as goal

pub cross_found-requires-clause-own : goal.cross_found-requires-clause-own
cross_found-requires-clause-own g c =
    let laws = g.met.T.Terrain g.world.𝓛 g.world.𝓜 g.world.𝓡 ((λ s x. x), (λ x. x), (λ x. x), λ x. x) in
    let numbers = g.T.Key.Numbers.numbers in
    let t = g.N.Naming.terrain in
    let k = numbers (arc_value c.args.ticket.key) in
    let own = ∥∥₁_elim c.args.ticket.own (laws.own_proofs_agree t k) (λ (o : g.T.Terrain.is_own t k). o) in
    subst (λ (x : List ℤ × List ℤ). g.T.Terrain.is_own x.0 x.1) (λ i. (sym c.requires.terrain i, numbers (sym c.deref.ensures i))) own

pub cross_found-requires-clause-wall : goal.cross_found-requires-clause-wall
cross_found-requires-clause-wall g c =
    let laws = g.met.T.Terrain g.world.𝓛 g.world.𝓜 g.world.𝓡 ((λ s x. x), (λ x. x), (λ x. x), λ x. x) in
    let numbers = g.T.Key.Numbers.numbers in
    let t = g.N.Naming.terrain in
    let ticket = c.args.ticket in
    let has = slot_has_wall (g.T.Terrain.has_walls t) (laws.walls_agree t) (laws.walls_proofs_agree t) (numbers (arc_value ticket.key)) (seen_by ticket.source) (place_of ticket.source) ticket.wall _ ticket.slot in
    subst (λ (x : List ℤ × List ℤ). HasWall (g.T.Terrain.has_walls x.0) x.1 ticket.wall) (λ i. (sym c.requires.terrain i, numbers (sym c.deref.ensures i))) has

pub cause_of-requires-after_bounds : goal.cause_of-requires-after_bounds
cause_of-requires-after_bounds g c κs within =
    let laws = g.met.T.Terrain g.world.𝓛 g.world.𝓜 g.world.𝓡 ((λ s x. x), (λ x. x), (λ x. x), λ x. x) in
    let numbers = g.T.Key.Numbers.numbers in
    let t = g.N.Naming.terrain in
    let ticket = c.args.ticket in
    let k = numbers (arc_value ticket.key) in
    let has = slot_has_wall (g.T.Terrain.has_walls t) (laws.walls_agree t) (laws.walls_proofs_agree t) k (seen_by ticket.source) (place_of ticket.source) ticket.wall _ ticket.slot in
    fault_so c.in-Err.stop
    (g.T.Terrain.is_stuck_at (g.T.Numbers.numbers c.args.terrain.now) (numbers c.deref.result.now) ticket.wall)
    (IsStuckWithin (g.T.Terrain.has_walls t) (g.T.Terrain.leads t) (g.T.Terrain.is_stuck t) (g.T.Terrain.is_stuck_at t) g.N.Naming.root k)
    (λ f stuck. (ticket.reached, ∣ inr (has.0, ticket.wall, has.1, has.2, subst (λ (x : List ℤ × List ℤ). g.T.Terrain.is_stuck_at x.0 x.1 ticket.wall f) (λ i. (c.requires.terrain i, numbers (c.deref.ensures i))) stuck) ∣₁))
    c.in-Err.ensures.stuck
