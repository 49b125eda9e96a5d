use Rattle.std.proofs.Common.{ℕ, sym, subst}
use Rattle.class_node.specs.Classes.{IsClassOver, HasWallsOver}
use Rattle.class_node.proofs.Counts.{leads_by}
use Rattle.class_node.proofs.class_terrain.ClassTerrainTerrain.cross.Goals as goal

pub lead_of-requires-clause-own : goal.lead_of-requires-clause-own
lead_of-requires-clause-own c = subst (λ (d : ℕ). ∥ IsClassOver d c.args.key.now ∥₁) (sym c.self.view_is) c.requires.own

pub lead_of-requires-clause-wall : goal.lead_of-requires-clause-wall
lead_of-requires-clause-wall c =
    let wall = c.requires.wall in (wall.0, subst (λ (d : ℕ). HasWallsOver d c.args.key.now wall.0) (sym c.self.view_is) wall.1, wall.2)

pub returns-clause-lead : goal.returns-clause-lead
returns-clause-lead c = leads_by c.args.self.now c.self.inside.field c.args.key.now c.args.wall c.lead_of.result c.self.view_is c.requires.own c.lead_of.ensures.lead
