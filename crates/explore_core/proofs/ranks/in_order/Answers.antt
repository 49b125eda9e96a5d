use Rattle.std.proofs.Common.{◌≡◌, ◌≤◌, ◌∙◌, ℕ, List, length, Some, Option, set, get_or, vec_len, sym, subst, arith}
use Rattle.terrain.specs.Places.{IsAt}
use Rattle.terrain.proofs.CallerLemmas.{at_within}
use Rattle.explore_core.proofs.Taken.{there, kept_more, done_more}
use Rattle.explore_core.proofs.ranks.in_order.Goals as goal

pub unreachable-requires : goal.unreachable-requires
unreachable-requires g c =
    let inv = c.loop-place.invariant in
    there c.args.items.items c.args.places.now (vec_len c.args.items) c.requires c.loop-place.left.items c.loop-place.ordered.items c.loop-place.place-index c.loop-place-test.true (let o = inv.out in let k = c.loop-place.ordered.ok.0 in omega arith) inv.kept inv.done (let k = c.args.items.ok.0 in omega arith) c.index_mut.result.now c.index_mut.ensures.value (sym c.take.ensures.value ∙ c.in_default.is)

pub loop-place-preserved : goal.loop-place-preserved
loop-place-preserved g c =
    let inv = c.loop-place.invariant in
    let items = c.args.items.items in
    let size : length c.loop-place.ordered.items ≡ c.loop-place.place-index = (let o = inv.out in let k = c.loop-place.ordered.ok.0 in omega arith) in
    record {
      len = inv.len;
      out = (let o = inv.out in let p = c.in_ok-push-2.ensures.len in omega arith);
      kept = λ i a x h at item. subst (λ (o : Option _). IsAt (set c.loop-place.left.items (get_or c.args.places.now c.loop-place.place-index 0) o) a (Some x)) (sym c.take.ensures.after) (kept_more items c.args.places.now (vec_len c.args.items) c.requires c.loop-place.left.items c.loop-place.ordered.items c.loop-place.place-index c.loop-place-test.true size inv.kept inv.done i a x h at item);
      done = λ i a x h at item. subst (λ (l : List _). IsAt l i x) (sym c.in_ok-push-2.ensures.items) (done_more items c.args.places.now (vec_len c.args.items) c.requires c.loop-place.left.items c.loop-place.ordered.items c.loop-place.place-index c.loop-place-test.true size inv.kept inv.done c.in-Some-take.item c.index_mut.result.now c.index_mut.ensures.value (sym c.take.ensures.value ∙ c.in-Some-take.is) i a x h at item);
    }

pub returns : goal.returns
returns g c = (c.loop-place.invariant.out ∙ ends c.loop-place-test.false c.loop-place.auto.place-index-end, λ i a x at item. c.loop-place.invariant.done i a x (let w = at_within c.args.places.now i a at in let t = c.loop-place-test.false in omega arith) at item)
  where
    ends : {m n : ℕ} → n ≤ m → m ≤ n → m ≡ n
    ends a b = omega arith
