use Rattle.std.proofs.Common.{◌≡◌, ◌<◌, List, ◌++◌, ◌∷◌, [], sym, ap, ◌∙◌, subst, set, length, get_or, false, true}
use Rattle.std.specs.Prelude.{ℕ, suc}
use Rattle.std.proofs.lemmas.List.{get_or_read}
use Rattle.plane.specs.Matrices.{identity}
use Rattle.quotient.specs.Trees.{matrix_at, IsProduct}
use Rattle.quotient.specs.TreeSearch.{IsSearchAt}
use Rattle.quotient.proofs.SearchLists.{found_on, new_on}
use Rattle.quotient.proofs.search.Search.follow.Goals as goal

pub returns-in_ok-push-clause-followed : goal.returns-in_ok-push-clause-followed
returns-in_ok-push-clause-followed c = λ rows root first t w has at.
    let lead = c.args.lead.now in
    let product = c.in_ok-product.product in
    let there = get_or_read c.args.self.now.tree.items c.args.from c.index-then-not-index.result.now c.requires.from c.index-then-not-index.ensures identity in
    let marked : lead.to < length c.args.self.now.is_found.items = subst (λ n. lead.to < n) (sym c.requires.marks) c.requires.to in
    subst (λ (order : List ℕ). IsSearchAt c.args.f.now rows root first order (set c.args.self.now.is_found.items lead.to true) (set c.args.self.now.tree.items lead.to product) t c.args.from (suc w))
    (sym c.in_ok-push.ensures.items)
    (new_on c.args.f.now rows root first c.args.self.now.order.items c.args.self.now.is_found.items c.args.self.now.tree.items t c.args.from w at lead has
    (subst (λ n. lead.to < n) at.search.matrices c.requires.to) product (sym (get_or_read c.args.self.now.is_found.items lead.to c.index.result.now marked c.index.ensures false) ∙ c.if-not-index.true)
    (subst (λ m. IsProduct c.args.f.now m lead.link product) there (c.in_ok-product.ensures.lowest, c.in_ok-product.ensures.product)))
