use Rattle.std.proofs.Common.{◌≡◌, true}
use Rattle.std.specs.Coded.{Coded-set, coded_bool}
use Rattle.terrain.proofs.CallerLemmas.{root_reached, lead_reached, reached_least}
use Rattle.terrain.proofs.laws.reach_is_least.Goals as goal

pub returns-clause-root : goal.returns-clause-root
returns-clause-root g c t root = root_reached (g.T.Terrain.has_walls t) (g.T.Terrain.leads t) root

pub returns-clause-closed : goal.returns-clause-closed
returns-clause-closed g c t root = lead_reached (g.T.Terrain.has_walls t) (g.T.Terrain.leads t) root

pub returns-clause-least : goal.returns-clause-least
returns-clause-least g c t root set = reached_least (g.T.Terrain.has_walls t) (g.T.Terrain.leads t) root (λ k. set k ≡ true) (λ k. Coded-set coded_bool (set k) true)
