use Rattle.std.proofs.Common.{◌≡◌, false, get_or, subst, arith, rules}
use Rattle.std.specs.Ordering.{is_lt}
use Rattle.std.specs.Arc.{arc_value}
use Rattle.std.specs.declared.cmp.Ordering.{Ordering}
use Rattle.std.specs.declared.cmp.Ordering.TheVariants.{Less}
use Rattle.std.proofs.lemmas.List.Sorted.{ranks_by, sorted_far, answers_always}
use Rattle.std.proofs.lemmas.Option.{get_or_from_slice_get}
use Rattle.terrain.proofs.CallerLemmas.{at_within}
use Rattle.explore_shared.specs.declared.gathered.Gathered.{Gathered}
use Rattle.explore_shared.proofs.sorting.sort_records.Goals as goal

not_less : (o : Ordering) → is_lt o ≡ false → o ≡ Less → ⊥
not_less o a b = cc

pub returns-clause-sorted : goal.returns-clause-sorted
returns-clause-sorted g c i j x y less at at' e =
    let laws = g.met.T.Terrain g.world.𝓛 g.world.𝓜 g.world.𝓡 ((λ s x. x), (λ x. x), (λ x. x), λ x. x) in
    let key = λ (r : Gathered g.row.T-Key.Denot g.row.R.Denot). g.T.Key.Numbers.numbers (arc_value r.key) in
    let items = c.sort_unstable_by.new.self.items in
    let weak = ranks_by laws.order_total key in
    let up = c.sort_unstable_by.ensures.sorted (λ a b. is_lt (g.T.Terrain.order (key a) (key b))) weak (answers_always _ _ _ (λ f a r h q. search rules)) in
    let far = sorted_far (λ a b. is_lt (g.T.Terrain.order (key a) (key b))) weak items up i j x (omega arith) (at_within items j y at') in
    let one = subst (λ (v : Gathered g.row.T-Key.Denot g.row.R.Denot). is_lt (g.T.Terrain.order (key (get_or items j x)) (key v)) ≡ false) (get_or_from_slice_get items i x x at) far in
    not_less (g.T.Terrain.order (key y) (key x)) (subst (λ (v : Gathered g.row.T-Key.Denot g.row.R.Denot). is_lt (g.T.Terrain.order (key v) (key x)) ≡ false) (get_or_from_slice_get items j y x at') one) e
