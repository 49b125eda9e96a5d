use Rattle.std.proofs.Common.{ℕ, sym, subst}
use Rattle.class_node.specs.Classes.{IsClassOver}
use Rattle.veech_cli.proofs.plain.graph_of.Goals as goal

pub explore_one-explored-requires-clause-own : goal.explore_one-explored-requires-clause-own
explore_one-explored-requires-clause-own c lifetimes = subst (λ (d : ℕ). ∥ IsClassOver d c.args.root.now ∥₁) (sym c.requires.field) c.requires.own
