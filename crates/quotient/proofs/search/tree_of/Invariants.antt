use Rattle.std.proofs.Common.{◌≡◌, ◌≤◌, ℕ, length, map}
use Rattle.quotient.specs.TreeSearch.{IsSearch}
use Rattle.quotient.proofs.search.tree_of.Given as goal

abbrev pub invariant-loop-t : goal.invariant-loop-t
invariant-loop-t l = record {
  search : IsSearch l.f (map (λ v. v.items) l.leads) l.root l.first l.search.order.items l.search.is_found.items l.search.tree.items l.t 0;
  found : l.t ≤ length l.search.order.items;
}
