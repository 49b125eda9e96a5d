use Rattle.std.proofs.Common.{ℕ, subst}
use Rattle.class_node.specs.Classes.{IsClassOver}
use Rattle.veech_cli.proofs.plain.root_of.Goals as goal

pub returns-in-Ok-clause-own : goal.returns-in-Ok-clause-own
returns-in-Ok-clause-own c = subst (λ (d : ℕ). ∥ IsClassOver d c.in-Ok.root.0 ∥₁) c.requires c.in-Ok.ensures.own
