use Rattle.std.proofs.Common.{◌∷◌, [], ◌∙◌, sym, ap, subst}
use Rattle.std.specs.Prelude.{pos}
use Rattle.terrain.specs.Reach.{IsReached}
use Rattle.terrain.specs.Rings.{HasTwo, RingLeads}
use Rattle.terrain.proofs.CallerLemmas.{root_reached}
use Rattle.wall_steal.proofs.tests.enter.Goals as goal

pub meet-requires-clause-reached : goal.meet-requires-clause-reached
meet-requires-clause-reached g c κs within =
    let Walls = HasTwo g.N.Naming.terrain in
    let Leads = RingLeads g.N.Naming.terrain in
    let root = g.N.Naming.root in
    subst (IsReached Walls Leads root) (c.requires.root ∙ sym (ap (λ n. pos n ∷ []) c.in_ok-root.ensures.ok)) (root_reached Walls Leads root)
