use Rattle.std.proofs.Common.{◌≡◌, ◌∙◌, ◌++◌, ◌∷◌, [], ℕ, List, length, map, sym, ap, subst, arith}
use Rattle.std.specs.Arc.{arc_value}
use Rattle.std.specs.declared.vec.Vec.{Vec}
use Rattle.std.specs.declared.alloc.Global.{Global}
use Rattle.std.proofs.lemmas.List.{length-append, length-map, map-append, map-id}
use Rattle.std.proofs.lemmas.Iterator.Adapters.{YieldsList-from_vec}
use Rattle.std.proofs.lemmas.Iterator.Consumers.{YieldsList-turn, YieldsList-end}
use Rattle.terrain.specs.declared.graph.Lead.{Lead}
use Rattle.terrain.specs.Places.{IsAt}
use Rattle.terrain.proofs.CallerLemmas.{at_map}
use Rattle.receipt_log.specs.Logs.{list_of}
use Rattle.class_shards.specs.Stored.{slots_of}
use Rattle.explore_shared.specs.declared.gathered.Gathered.{Gathered}
use Rattle.explore_shared.specs.Records.{key_in, keys_in, row_in}
use Rattle.explore_shared.specs.Ranks.{AreLeadsOf}
use Rattle.explore_shared.proofs.Leads.{each_push, at_turn, finds_same}
use Rattle.explore_shared.proofs.graph.read_records.Goals as goal

pub leads_of-requires-clause-finds : goal.leads_of-requires-clause-finds
leads_of-requires-clause-finds g c κs within =
    let inv = c.loop-record.invariant in
    let keys = keys_in g.T.Key.Numbers.numbers c.args.records.items in
    (keys, finds_same (map list_of c.args.places.now.logs.items) (map list_of c.loop-record.places.logs.items) c.args.places.now.starts.items c.loop-record.places.starts.items c.args.places.now.ranks.items c.loop-record.places.ranks.items keys inv.lists (ap (λ (v : Vec ℕ Global). v.items) inv.starts) (ap (λ (v : Vec ℕ Global). v.items) inv.ranks) c.requires.finds)

pub leads_of-requires-clause-filled : goal.leads_of-requires-clause-filled
leads_of-requires-clause-filled g c κs bounds w within =
    let inv = c.loop-record.invariant in
    let records = c.args.records in
    let gives = c.into_iter-record-iterator.ensures.into_iter_gives in
    let t = YieldsList-turn (YieldsList-from_vec {s = c.into_iter-record-iterator.result} records.items gives.0 (gives.1 ∙ records.ok.0)) c.loop-record.yielded c.loop-record.record-iterator c.loop-record.yielded_by c.next.result c.next.new.self c.in-Some.record c.in-Some.is c.next.ensures.steps in
    let at = at_turn records.items (length c.loop-record.yielded) c.in-Some.record t in
    c.requires.filled (length c.loop-record.yielded) w (row_in g.T.Key.Numbers.numbers c.in-Some.record) (at_map (row_in g.T.Key.Numbers.numbers) records.items (length c.loop-record.yielded) c.in-Some.record at) within

pub returns-clause-leads : goal.returns-clause-leads
returns-clause-leads g c i x v at there =
    let inv = c.loop-record.invariant in
    let records = c.args.records in
    let gives = c.into_iter-record-iterator.ensures.into_iter_gives in
    let e = YieldsList-end (YieldsList-from_vec {s = c.into_iter-record-iterator.result} records.items gives.0 (gives.1 ∙ records.ok.0)) c.loop-record.yielded c.loop-record.record-iterator c.loop-record.yielded_by c.next.result c.next.new.self c.in-None.is c.next.ensures.steps in
    inv.leads i x v (subst (λ (l : List (Gathered _ _)). IsAt l i x) (sym e.0 ∙ map-id c.loop-record.yielded) at) there

pub loop-record-preserved : goal.loop-record-preserved
loop-record-preserved g c =
    let inv = c.loop-record.invariant in
    let numbers = g.T.Key.Numbers.numbers in
    let keys = keys_in numbers c.args.records.items in
    let leads = c.loop-record.leads in
    let found = c.in_ok-leads_of.field-0 in
    let own : c.in_ok-owned_key.field-0 ≡ arc_value c.in-Some.record.key = c.in_ok-owned_key.ensures in
    let more : map {A = Vec (Lead _) Global} {B = List (Lead _)} (λ y. y.items) c.push.new.self.items ≡ map {A = Vec (Lead _) Global} {B = List (Lead _)} (λ y. y.items) leads.items ++ found.items ∷ [] = ap (map {A = Vec (Lead _) Global} {B = List (Lead _)} (λ y. y.items)) c.in_ok-push.ensures.items ∙ map-append {A = Vec (Lead _) Global} {B = List (Lead _)} (λ y. y.items) leads.items (found ∷ []) in
    let long : length c.loop-record.yielded ≡ length (map {A = Vec (Lead _) Global} {B = List (Lead _)} (λ y. y.items) leads.items) = (let m = length-map {A = Vec (Lead _) Global} {B = List (Lead _)} leads.items (λ y. y.items) in let v = leads.ok.0 in let n = inv.len in omega arith) in
    let last = c.in_ok-leads_of.ensures.leads keys (finds_same (map list_of c.args.places.now.logs.items) (map list_of c.loop-record.places.logs.items) c.args.places.now.starts.items c.loop-record.places.starts.items c.args.places.now.ranks.items c.loop-record.places.ranks.items keys inv.lists (ap (λ (v : Vec ℕ Global). v.items) inv.starts) (ap (λ (v : Vec ℕ Global). v.items) inv.ranks) c.requires.finds) in
    record {
      names = c.leads_of.ensures.names;
      lists = c.leads_of.ensures.same.0 ∙ inv.lists;
      starts = c.leads_of.ensures.same.1 ∙ inv.starts;
      ranks = c.leads_of.ensures.same.2 ∙ inv.ranks;
      keys = ap (map numbers) c.in_ok-push-2.ensures.items ∙ map-append numbers c.loop-record.keys.items (c.in_ok-owned_key.field-0 ∷ []) ∙ (λ i. inv.keys i ++ numbers (own i) ∷ []) ∙ sym (map-append (key_in numbers) c.loop-record.yielded (c.in-Some.record ∷ []));
      len = (let n = length-append c.loop-record.yielded (c.in-Some.record ∷ []) in let l = c.in_ok-push.ensures.len in let k = inv.len in omega arith);
      leads = λ i x v at there. each_push (λ (y : Gathered _ _) (u : List (Lead _)). AreLeadsOf keys (slots_of y.row) u) c.loop-record.yielded (map {A = Vec (Lead _) Global} {B = List (Lead _)} (λ y. y.items) leads.items) c.in-Some.record found.items long inv.leads last i x v at (subst (λ (l : List (List (Lead _))). IsAt l i v) more there);
    }
