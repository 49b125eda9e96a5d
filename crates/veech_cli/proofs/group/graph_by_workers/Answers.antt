use Rattle.std.proofs.Common.{ℕ, sym, subst}
use Rattle.class_node.specs.Classes.{IsClassOver}
use Rattle.veech_cli.proofs.group.graph_by_workers.Goals as goal

pub explore_shared-explored-requires-clause-own : goal.explore_shared-explored-requires-clause-own
explore_shared-explored-requires-clause-own g c lifetimes outlives = subst (λ (d : ℕ). ∥ IsClassOver d c.args.root.now ∥₁) (sym c.requires.field) c.requires.own
