use Rattle.std.proofs.Common.{ℕ, List, map, ap, sym, subst, ◌∙◌, arith}
use Rattle.std.specs.Prelude.{ℤ}
use Rattle.std.specs.Arc.{arc_value}
use Rattle.std.proofs.lemmas.List.{length-map}
use Rattle.std.proofs.lemmas.Result.{MatchResult-weaker}
use Rattle.terrain.specs.Places.{IsAt}
use Rattle.terrain.proofs.CallerLemmas.{at_within}
use Rattle.explore_core.specs.Books.{Row, keys_of}
use Rattle.explore_core.specs.Index.{IsIndex, IsGap}
use Rattle.class_shards.specs.Stored.{slots_of}
use Rattle.class_shards.specs.Views.{rows_of}
use Rattle.class_shards.proofs.Stored.{keys_shown, rows_length}
use Rattle.class_shards.proofs.Meetings.{new_not_there}
use Rattle.class_shards.proofs.shard.Shard.find.Goals as goal

pub find-requires-after_bounds : goal.find-requires-after_bounds
find-requires-after_bounds g c κs within =
    let numbers = g.T.Key.Numbers.numbers in
    let s = c.args.self.now in
    let k = numbers c.args.key.now in
    let e = ap (map (λ a. numbers (arc_value a))) c.as_slice.ensures.value ∙ keys_shown (λ a. numbers (arc_value a)) slots_of s.keys.items s.rows.items s.long in
    subst (λ (x : List (List ℤ) × List ℕ). IsIndex g.T.Terrain.order x.0 x.1) (λ i. (sym e i, sym c.as_slice-2.ensures.value i)) s.index

pub returns-clause-found : goal.returns-clause-found
returns-clause-found g c =
    let numbers = g.T.Key.Numbers.numbers in
    let s = c.args.self.now in
    let k = numbers c.args.key.now in
    let e = ap (map (λ a. numbers (arc_value a))) c.as_slice.ensures.value ∙ keys_shown (λ a. numbers (arc_value a)) slots_of s.keys.items s.rows.items s.long in
    MatchResult-weaker c.find.result c.find.ensures.found (λ p x. subst (λ (l : List (List ℤ)). IsAt l p k) e x) (λ i x. x)

pub returns-clause-within : goal.returns-clause-within
returns-clause-within g c =
    let numbers = g.T.Key.Numbers.numbers in
    let s = c.args.self.now in
    let rows = rows_of s in
    let k = numbers c.args.key.now in
    let e = ap (map (λ a. numbers (arc_value a))) c.as_slice.ensures.value ∙ keys_shown (λ a. numbers (arc_value a)) slots_of s.keys.items s.rows.items s.long in
    let m = length-map rows (λ (x : Row _). x.key) in
    let l = rows_length (λ a. numbers (arc_value a)) slots_of s.keys.items s.rows.items s.long in
    let ok = s.rows.ok.0 in
    MatchResult-weaker c.find.result c.find.ensures.found (λ p x. let h = at_within (keys_of rows) p k (subst (λ (l : List (List ℤ)). IsAt l p k) e x) in omega arith) (λ i x. x)

pub returns-clause-gap : goal.returns-clause-gap
returns-clause-gap g c =
    let numbers = g.T.Key.Numbers.numbers in
    let s = c.args.self.now in
    let k = numbers c.args.key.now in
    let e = ap (map (λ a. numbers (arc_value a))) c.as_slice.ensures.value ∙ keys_shown (λ a. numbers (arc_value a)) slots_of s.keys.items s.rows.items s.long in
    MatchResult-weaker c.find.result c.find.ensures.gap (λ p x. x) (λ i x. subst (λ (y : List (List ℤ) × List ℕ). IsGap g.T.Terrain.order y.0 y.1 k i) (λ j. (e j, c.as_slice-2.ensures.value j)) x)

pub returns-clause-fresh : goal.returns-clause-fresh
returns-clause-fresh g c =
    let numbers = g.T.Key.Numbers.numbers in
    let s = c.args.self.now in
    let k = numbers c.args.key.now in
    let e = ap (map (λ a. numbers (arc_value a))) c.as_slice.ensures.value ∙ keys_shown (λ a. numbers (arc_value a)) slots_of s.keys.items s.rows.items s.long in
    MatchResult-weaker c.find.result c.find.ensures.fresh (λ p x. x) (λ i x. new_not_there (rows_of s) k (subst (λ (l : List (List ℤ)). (a : ℕ) → IsAt l a k → ⊥) e x))
