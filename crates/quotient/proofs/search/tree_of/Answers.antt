use Rattle.std.proofs.Common.{◌≡◌, ℕ, ◌+◌, ◌<◌, ◌≤◌, suc, List, length, map, refl, sym, ap, ◌∙◌, subst, arith}
use Rattle.std.proofs.lemmas.List.{length-map}
use Rattle.quotient.specs.TreeSearch.{IsSearch}
use Rattle.quotient.proofs.SearchLists.{has_next, whole_tree}
use Rattle.quotient.proofs.search.tree_of.Goals as goal

pub follow_all-requires-clause-here : goal.follow_all-requires-clause-here
follow_all-requires-clause-here c =
    let s = c.loop-t.search in
    let rows = map (λ v. v.items) c.args.leads.now in
    let many : length rows ≡ length c.args.leads.now = length-map c.args.leads.now (λ v. v.items) in
    has_next c.args.f.now rows c.args.root c.args.first.now s.order.items s.is_found.items s.tree.items c.loop-t.t c.loop-t.invariant.search c.loop-t.invariant.found
    (λ e p. c.requires.reached e (subst (λ n. e < n) many p)) (omega arith)

pub loop-t-preserved : goal.loop-t-preserved
loop-t-preserved c =
    let s = c.follow_all.new.self in
    let rows = map (λ v. v.items) c.args.leads.now in
    let next : suc c.loop-t.t ≡ c.loop-t.t + 1 = omega arith in
    let r = c.in_ok-follow_all.ensures.followed c.args.root c.args.first.now c.loop-t.invariant.search in
    let here = r.1 in
    record {
      search = subst (λ (n : ℕ). IsSearch c.args.f.now rows c.args.root c.args.first.now s.order.items s.is_found.items s.tree.items n 0) next r.0;
      found = omega (arith, here);
    }

pub returns-clause-tree : goal.returns-clause-tree
returns-clause-tree c =
    let s = c.loop-t.search in
    let rows = map (λ v. v.items) c.args.leads.now in
    let many : length rows ≡ length c.args.leads.now = length-map c.args.leads.now (λ v. v.items) in
    whole_tree c.args.f.now rows c.args.root c.args.first.now s.order.items s.is_found.items s.tree.items c.loop-t.t c.loop-t.invariant.search c.loop-t.invariant.found
    (λ e p. c.requires.reached e (subst (λ n. e < n) many p)) (omega arith)
