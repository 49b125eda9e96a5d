use mathlib.Core.Logic.{∥∥₁_elim}
use Rattle.std.specs.Arc.{arc_value}
use Rattle.wall_steal.proofs.walls.cross_wall.Goals as goal

pub bring_walls-requires-clause-own : goal.bring_walls-requires-clause-own
bring_walls-requires-clause-own g c κs within =
    let laws = g.met.T.Terrain g.world.𝓛 g.world.𝓜 g.world.𝓡 ((λ s x. x), (λ x. x), (λ x. x), λ x. x) in
    let numbers = g.T.Key.Numbers.numbers in
    let t = g.N.Naming.terrain in
    let k = numbers (arc_value c.args.ticket.key) in
    ∥∥₁_elim c.args.ticket.own (laws.own_proofs_agree t k) (λ (o : g.T.Terrain.is_own t k). o)
