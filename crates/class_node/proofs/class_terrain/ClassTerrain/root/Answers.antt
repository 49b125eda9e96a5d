use Rattle.std.proofs.Common.{ℕ, subst}
use Rattle.tri_core.specs.Images.{IsImageBy}
use Rattle.canon_code.specs.Canonical.{canonical}
use Rattle.class_node.specs.Classes.{IsClassOver}
use Rattle.class_node.proofs.class_terrain.ClassTerrain.root.Goals as goal

pub returns-in-Ok-clause-own : goal.returns-in-Ok-clause-own
returns-in-Ok-clause-own c = subst (λ (d : ℕ). ∥ IsClassOver d c.in-Ok.canon.code ∥₁) c.self.view_is c.in-Ok.ensures.own

pub returns-in-Ok-clause-image : goal.returns-in-Ok-clause-image
returns-in-Ok-clause-image c =
    let canon = c.in-Ok.canon in
    subst (λ (d : ℕ). IsImageBy d canon.frame.rows canon.frame.denominator (canonical d canon.code) c.args.base.now.tri.halves) c.self.view_is c.in-Ok.ensures.image
