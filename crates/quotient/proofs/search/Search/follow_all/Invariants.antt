use Rattle.std.proofs.Common.{◌≡◌, ℕ, length, map}
use Rattle.plane.specs.Matrices.{FieldMatrix}
use Rattle.quotient.specs.TreeSearch.{IsSearch, IsSearchAt}
use Rattle.quotient.proofs.search.Search.follow_all.Given as goal

abbrev pub invariant-loop-lead : goal.invariant-loop-lead
invariant-loop-lead l = record {
  marks : length l.self.is_found.items ≡ length l.leads;
  matrices : length l.self.tree.items ≡ length l.leads;
  along : (root : ℕ) (first : FieldMatrix)
      → IsSearch l.f (map (λ v. v.items) l.leads) root first l.fn.self.order.items l.fn.self.is_found.items l.fn.self.tree.items l.t 0
      → IsSearchAt l.f (map (λ v. v.items) l.leads) root first l.self.order.items l.self.is_found.items l.self.tree.items l.t l.from l.lead-index;
}
