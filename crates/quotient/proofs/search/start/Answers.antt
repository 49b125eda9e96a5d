use Rattle.std.proofs.Common.{List, true, sym, subst, set}
use Rattle.std.specs.Prelude.{ℕ}
use Rattle.quotient.specs.TreeSearch.{IsSearch}
use Rattle.quotient.proofs.SearchLists.{started_lists}
use Rattle.quotient.proofs.search.start.Goals as goal

pub returns : goal.returns
returns c = λ d rows long.
    subst (λ (order : List ℕ). IsSearch d rows c.args.root c.args.first.now order (set c.in_ok-is_found.is_found.items c.args.root true) c.in_ok-tree.tree.items 0 0) (sym c.in_ok-order.ensures.items)
    (started_lists d rows c.args.root c.args.places c.args.first.now c.in_ok-is_found.is_found.items c.in_ok-tree.tree.items c.requires long
    (c.in_ok-is_found.ensures.items_if_clones_equal (λ y same. same)) (c.in_ok-tree.ensures.items_if_clones_equal (λ y same. same)))
