use Rattle.std.proofs.Common.{◌≡◌, ◌∙◌, ◌++◌, ◌∷◌, [], ℕ, suc, List, length, drop, sym, ap, subst, arith, ⊎_elim}
use Rattle.std.specs.Arc.{arc_value}
use Rattle.std.specs.declared.sync.Arc.{Arc}
use Rattle.std.specs.declared.alloc.Global.{Global}
use Rattle.std.specs.Vec.Iter.{into_iter_items}
use Rattle.std.proofs.lemmas.List.{length-append, map-append}
use Rattle.terrain.specs.Places.{IsAt}
use Rattle.terrain.proofs.CallerLemmas.{at_snoc}
use Rattle.class_shards.specs.Stored.{slots_of}
use Rattle.explore_shared.specs.declared.gathered.Gathered.{Gathered}
use Rattle.explore_shared.specs.Records.{rows_of, row_in}
use Rattle.explore_shared.proofs.Stored.{drop_at, rows_more}
use Rattle.explore_shared.proofs.all.add_rows.Goals as goal

pub loop-key-preserved : goal.loop-key-preserved
loop-key-preserved g c =
    let inv = c.loop-key.invariant in
    let numbers = g.T.Key.Numbers.numbers in
    let yielded = c.loop-key.yielded in
    let key = c.in-Some.key in
    let row = c.in-Some-next.row in
    let records = c.loop-key.records in
    let left = into_iter_items c.next-in-loop-key.new.self in
    let next : drop (length yielded) c.args.rows.items ≡ row ∷ left = sym inv.rest ∙ c.in-Some-next.ensures.items in
    let d = drop_at c.args.rows.items (length yielded) row left next in
    let one : suc (length yielded) ≡ length (yielded ++ key ∷ []) = (let l = length-append yielded (key ∷ []) in omega arith) in
    let last : Gathered _ _ = record { number = c.len-number.result; key = key; row = row } in
    record {
      rest = sym d.1 ∙ ap (λ (m : ℕ). drop m c.args.rows.items) one;
      count = (let p = c.in_ok-push.ensures.len in let k = inv.count in omega arith);
      numbered = λ i x at. ⊎_elim
          (λ (h : IsAt records.items i x). inv.numbered i x h)
          (λ (h : (i ≡ length records.items) × (last ≡ x)). ap (λ (z : Gathered _ _). z.number) (sym h.1) ∙ c.len-number.ensures ∙ records.ok.0 ∙ sym h.0)
          (at_snoc records.items i last x (subst (λ (l : List (Gathered _ _)). IsAt l i x) c.in_ok-push.ensures.items at));
      rows = rows_more (λ (a : Arc _ Global). numbers (arc_value a)) slots_of (rows_of numbers c.args.records.now.items) (rows_of numbers records.items) (rows_of numbers c.push.new.self.items) yielded c.args.rows.items key row inv.rows (ap (rows_of numbers) c.in_ok-push.ensures.items ∙ map-append (row_in numbers) records.items (last ∷ [])) d.0;
    }
