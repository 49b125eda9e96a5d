use Rattle.std.proofs.Common.{◌≡◌, ◌∙◌, ◌++◌, ◌∷◌, [], ℕ, List, length, map, vec_len, sym, ap, subst, arith, ⊎_elim}
use Rattle.std.specs.Prelude.{ℤ}
use Rattle.std.proofs.lemmas.List.{length-map, map-append}
use Rattle.std.proofs.lemmas.Result.{on_ok_weaker}
use Rattle.terrain.specs.Places.{IsAt}
use Rattle.terrain.proofs.CallerLemmas.{at_snoc}
use Rattle.receipt_log.specs.declared.keeper.LogKeeper.{LogKeeper}
use Rattle.receipt_log.specs.Logs.{name_of_log, list_of}
use Rattle.explore_core.specs.Books.{Row}
use Rattle.class_shards.specs.Agreement.{AreFilled}
use Rattle.class_shards.specs.Stored.{rows_in}
use Rattle.explore_shared.specs.Records.{rows_of, row_in, AreNamed}
use Rattle.explore_shared.proofs.ShardMore.{filled_more, merely_put}
use Rattle.explore_shared.proofs.all.All.put.Goals as goal

pub returns-clause-logs : goal.returns-clause-logs
returns-clause-logs g c =
    let self = c.args.self.now in
    let log = c.args.rest.log in
    let named : AreNamed g.N.Naming.logs c.push-2.new.self.items = λ i l at. ⊎_elim
    (λ (h : IsAt self.logs.items i l). c.requires.named i l h)
    (λ (h : (i ≡ length self.logs.items) × (log ≡ l)). ap name_of_log (sym h.1) ∙ c.requires.log.1 ∙ ap g.N.Naming.logs (self.logs.ok.0 ∙ sym h.0))
    (at_snoc self.logs.items i log l (subst (λ (x : List (LogKeeper _ _)). IsAt x i l) c.in_ok-push-2.ensures.items at)) in
    on_ok_weaker c.add_rows.result (λ _. (c.in_ok-push-2.ensures.len, named)) c.add_rows.ensures.len

pub returns-clause-gathered : goal.returns-clause-gathered
returns-clause-gathered g c =
    let numbers = g.T.Key.Numbers.numbers in
    let self = c.args.self.now in
    let rest = c.args.rest in
    let rows = rows_of numbers self.records.items in
    let new = rows_in numbers rest.keys.items rest.rows.items in
    let lists : map list_of c.push-2.new.self.items ≡ map list_of self.logs.items ++ map (λ (r : Row _). r.key) new ∷ [] = ap (map list_of) c.in_ok-push-2.ensures.items ∙ map-append list_of self.logs.items (rest.log ∷ []) ∙ ap (λ (l : List (List ℤ)). map list_of self.logs.items ++ l ∷ []) c.requires.log.0 in
    let many : c.len.result ≡ length rows = (let l = c.len.ensures in let v = self.records.ok.0 in let m = length-map self.records.items (row_in numbers) in omega arith) in
    on_ok_weaker c.add_rows.result (λ e. merely_put (g.T.Terrain.has_walls g.N.Naming.terrain) (g.T.Terrain.leads g.N.Naming.terrain) g.T.Terrain.shard g.N.Naming.root (vec_len self.logs) (vec_len c.push-2.new.self) rows (rows_of numbers c.add_rows.new.records.items) new (map list_of self.logs.items) (map list_of c.push-2.new.self.items) self.starts.items c.push.new.self.items c.in_ok-push-2.ensures.len e lists (c.in_ok-push.ensures.items ∙ ap (λ (n : ℕ). self.starts.items ++ n ∷ []) many) c.requires.gathered c.requires.shard) c.add_rows.ensures.rows

pub returns-clause-filled : goal.returns-clause-filled
returns-clause-filled g c =
    let numbers = g.T.Key.Numbers.numbers in
    let self = c.args.self.now in
    let rest = c.args.rest in
    on_ok_weaker c.add_rows.result (λ e. subst (λ (l : List (Row _)). AreFilled l) (sym e) (filled_more (rows_of numbers self.records.items) (rows_in numbers rest.keys.items rest.rows.items) c.requires.filled.0 c.requires.filled.1)) c.add_rows.ensures.rows
