use Rattle.std.proofs.Common.{ℕ, sym, subst}
use Rattle.std.specs.Prelude.{IfOk}
use Rattle.class_node.specs.Classes.{IsClassOver, HasWallsOver}
use Rattle.class_node.proofs.class_terrain.ClassTerrainTerrain.find_walls.Goals as goal

pub counted_walls-requires : goal.counted_walls-requires
counted_walls-requires c = record { own = subst (λ (d : ℕ). ∥ IsClassOver d c.args.key.now ∥₁) (sym c.self.view_is) c.requires }

pub returns-clause-walls : goal.returns-clause-walls
returns-clause-walls c = subst (λ (d : ℕ). IfOk c.counted_walls.result (λ r. HasWallsOver d c.args.key.now r.0)) c.self.view_is c.counted_walls.ensures.count
