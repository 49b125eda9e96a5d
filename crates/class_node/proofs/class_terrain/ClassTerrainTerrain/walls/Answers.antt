use Rattle.std.proofs.Common.{ℕ, sym, subst}
use Rattle.class_node.specs.Classes.{IsClassOver}
use Rattle.class_node.proofs.class_terrain.ClassTerrainTerrain.walls.Goals as goal

pub wall_count-requires : goal.wall_count-requires
wall_count-requires c = record { own = subst (λ (d : ℕ). ∥ IsClassOver d c.args.key.now ∥₁) (sym c.self.view_is) c.requires }
