use Rattle.std.proofs.Common.{◌≡◌, subst}
use Rattle.std.specs.Arc.{arc_value}
use Rattle.terrain.specs.Causes.{IsStuckWithin}
use Rattle.wall_steal.specs.Causes.{IsCause}
use Rattle.explore_shared.proofs.run.fault_of.Goals as goal

pub returns-clause-fault : goal.returns-clause-fault
returns-clause-fault g c key fault e =
    let t = g.N.Naming.terrain in
    let numbers = g.T.Key.Numbers.numbers in
    let holds : IsStuckWithin (g.T.Terrain.has_walls t) (g.T.Terrain.leads t) (g.T.Terrain.is_stuck t) (g.T.Terrain.is_stuck_at t) g.N.Naming.root (numbers (arc_value c.in-Wide.key)) c.in-Wide.fault = subst (λ cause. IsCause (g.T.Terrain.has_walls t) (g.T.Terrain.leads t) (g.T.Terrain.is_stuck t) (g.T.Terrain.is_stuck_at t) g.N.Naming.root g.N.Naming.limit cause) c.in-Wide.is c.read.ensures.holds in
    let copied : c.in-Ok.key ≡ c.deref.result.now = c.in-Ok.ensures in
    let shared = c.deref.ensures in
    let told = c.copy_fault.ensures in
    let same_key : arc_value c.in-Wide.key ≡ key = cc in
    let same_fault : c.in-Wide.fault ≡ fault = cc in
    subst (λ x. IsStuckWithin (g.T.Terrain.has_walls t) (g.T.Terrain.leads t) (g.T.Terrain.is_stuck t) (g.T.Terrain.is_stuck_at t) g.N.Naming.root (numbers x) fault) same_key (subst (λ y. IsStuckWithin (g.T.Terrain.has_walls t) (g.T.Terrain.leads t) (g.T.Terrain.is_stuck t) (g.T.Terrain.is_stuck_at t) g.N.Naming.root (numbers (arc_value c.in-Wide.key)) y) same_fault holds)
