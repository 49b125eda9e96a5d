use Rattle.std.proofs.Common.{ℕ, sym, subst}
use Rattle.class_node.specs.Classes.{HasWallsOver}
use Rattle.class_node.specs.Found.{AreFoundOver}
use Rattle.class_node.proofs.Counts.{leads_by}
use Rattle.class_node.proofs.class_terrain.ClassTerrainTerrain.cross_found.Goals as goal

pub lead_among-requires-clause-found : goal.lead_among-requires-clause-found
lead_among-requires-clause-found c = subst (λ (d : ℕ). AreFoundOver d c.args.key.now c.args.walls.now) (sym c.self.view_is) c.requires.found

pub lead_among-requires-clause-wall : goal.lead_among-requires-clause-wall
lead_among-requires-clause-wall c =
    let wall = c.requires.wall in (wall.0, subst (λ (d : ℕ). HasWallsOver d c.args.key.now wall.0) (sym c.self.view_is) wall.1, wall.2)

pub returns-clause-lead : goal.returns-clause-lead
returns-clause-lead c = leads_by c.args.self.now c.self.inside.field c.args.key.now c.args.wall c.lead_among.result c.self.view_is c.requires.own c.lead_among.ensures.lead
