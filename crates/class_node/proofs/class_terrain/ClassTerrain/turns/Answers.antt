use Rattle.std.proofs.Common.{ℕ, sym, subst}
use Rattle.class_node.specs.Classes.{IsClassOver}
use Rattle.class_node.proofs.class_terrain.ClassTerrain.turns.Goals as goal

pub turns_of-requires : goal.turns_of-requires
turns_of-requires c = record { own = subst (λ (d : ℕ). ∥ IsClassOver d c.args.code.now ∥₁) (sym c.self.view_is) c.requires.own }
