use Rattle.std.proofs.Common.{◌≡◌, ◌<◌, ℕ, List, length, map, sym, ap, subst, arith}
use Rattle.std.specs.Prelude.{ℤ}
use Rattle.std.specs.declared.vec.Vec.{Vec}
use Rattle.std.specs.declared.alloc.Global.{Global}
use Rattle.std.proofs.lemmas.List.{length-map}
use Rattle.std.proofs.lemmas.List.Sorted.{length_permutation}
use Rattle.terrain.specs.declared.graph.Lead.{Lead}
use Rattle.terrain.specs.Places.{IsAt}
use Rattle.terrain.specs.Graphs.{IsGraph}
use Rattle.receipt_log.specs.Logs.{list_of}
use Rattle.class_shards.specs.Stored.{slots_of}
use Rattle.explore_shared.specs.declared.gathered.Gathered.{Gathered}
use Rattle.explore_shared.specs.Records.{rows_of, key_in, keys_in}
use Rattle.explore_shared.specs.Ranks.{AreRanks}
use Rattle.explore_shared.proofs.Leads.{finds_same}
use Rattle.explore_shared.proofs.Ranked.{numbered_within}
use Rattle.explore_shared.proofs.ShardMore.{gathered_of}
use Rattle.explore_shared.proofs.Graphed.{found, filled_sorted, graph_is}
use Rattle.explore_shared.proofs.graph.graph_of.Goals as goal

pub ranks_of-requires-clause-within : goal.ranks_of-requires-clause-within
ranks_of-requires-clause-within g c i x at =
    let before = c.args.all.records.items in
    let after = c.sort_records.new.records.items in
    let same = c.sort_records.ensures.permutation in
    let value = c.as_slice.ensures.value in
    subst (λ (l : List (Gathered _ _)). x.number < length l) (sym value) (numbered_within (λ (y : Gathered _ _). y.number) before after same c.requires.numbered i x (subst (λ (l : List (Gathered _ _)). IsAt l i x) value at))

pub ranks_of-requires-clause-few : goal.ranks_of-requires-clause-few
ranks_of-requires-clause-few g c =
    let before = c.args.all.records.items in
    let after = c.sort_records.new.records.items in
    let same = c.sort_records.ensures.permutation in
    let value = ap length c.as_slice.ensures.value in
    let many = length_permutation before after same in
    let v = c.args.all.records.ok.0 in
    let few = c.requires.few in
    omega arith

pub rank_of-root-requires-clause-finds : goal.rank_of-root-requires-clause-finds
rank_of-root-requires-clause-finds g c =
    let before = c.args.all.records.items in
    let after = c.sort_records.new.records.items in
    let same = c.sort_records.ensures.permutation in
    let numbers = g.T.Key.Numbers.numbers in
    let t = g.N.Naming.terrain in
    let laws = g.met.T.Terrain g.world.𝓛 g.world.𝓜 g.world.𝓡 ((λ s x. x), (λ x. x), (λ x. x), λ x. x) in
    let gathered = gathered_of (g.T.Terrain.has_walls t) (g.T.Terrain.leads t) g.T.Terrain.shard g.N.Naming.root (laws.walls_proofs_agree t) (laws.leads_proofs_agree t) 16 (rows_of numbers before) (map list_of c.args.all.logs.items) c.args.all.starts.items c.requires.gathered in
    let all = found (λ (x : Gathered _ _). x.number) (key_in numbers) (λ (x : Gathered _ _). slots_of x.row) (g.T.Terrain.has_walls t) (g.T.Terrain.leads t) g.T.Terrain.shard g.N.Naming.root 16 before after (map list_of c.args.all.logs.items) c.args.all.starts.items c.in_ok-ranks.ranks.items gathered same c.requires.numbered (subst (λ (l : List (Gathered _ _)). AreRanks l c.in_ok-ranks.ranks.items) c.as_slice.ensures.value c.in_ok-ranks.ensures) in
    (keys_in numbers after, all)

pub read_records-requires-clause-finds : goal.read_records-requires-clause-finds
read_records-requires-clause-finds g c κs within =
    let before = c.args.all.records.items in
    let after = c.sort_records.new.records.items in
    let same = c.sort_records.ensures.permutation in
    let numbers = g.T.Key.Numbers.numbers in
    let t = g.N.Naming.terrain in
    let laws = g.met.T.Terrain g.world.𝓛 g.world.𝓜 g.world.𝓡 ((λ s x. x), (λ x. x), (λ x. x), λ x. x) in
    let gathered = gathered_of (g.T.Terrain.has_walls t) (g.T.Terrain.leads t) g.T.Terrain.shard g.N.Naming.root (laws.walls_proofs_agree t) (laws.leads_proofs_agree t) 16 (rows_of numbers before) (map list_of c.args.all.logs.items) c.args.all.starts.items c.requires.gathered in
    let all = found (λ (x : Gathered _ _). x.number) (key_in numbers) (λ (x : Gathered _ _). slots_of x.row) (g.T.Terrain.has_walls t) (g.T.Terrain.leads t) g.T.Terrain.shard g.N.Naming.root 16 before after (map list_of c.args.all.logs.items) c.args.all.starts.items c.in_ok-ranks.ranks.items gathered same c.requires.numbered (subst (λ (l : List (Gathered _ _)). AreRanks l c.in_ok-ranks.ranks.items) c.as_slice.ensures.value c.in_ok-ranks.ensures) in
    let kept = c.rank_of-root.ensures.same in
    finds_same (map list_of c.args.all.logs.items) (map list_of c.rank_of-root.new.self.logs.items) c.args.all.starts.items c.rank_of-root.new.self.starts.items c.in_ok-ranks.ranks.items c.rank_of-root.new.self.ranks.items (keys_in numbers after) kept.0 (ap (λ (v : Vec ℕ Global). v.items) kept.1) (ap (λ (v : Vec ℕ Global). v.items) kept.2) all

pub read_records-requires-clause-filled : goal.read_records-requires-clause-filled
read_records-requires-clause-filled g c κs within =
    let before = c.args.all.records.items in
    let after = c.sort_records.new.records.items in
    let same = c.sort_records.ensures.permutation in
    filled_sorted (λ (x : Gathered _ _). x.number) (key_in g.T.Key.Numbers.numbers) (λ (x : Gathered _ _). slots_of x.row) before after same c.requires.filled

pub returns-clause-graph : goal.returns-clause-graph
returns-clause-graph g c =
    let before = c.args.all.records.items in
    let after = c.sort_records.new.records.items in
    let same = c.sort_records.ensures.permutation in
    let numbers = g.T.Key.Numbers.numbers in
    let t = g.N.Naming.terrain in
    let laws = g.met.T.Terrain g.world.𝓛 g.world.𝓜 g.world.𝓡 ((λ s x. x), (λ x. x), (λ x. x), λ x. x) in
    let gathered = gathered_of (g.T.Terrain.has_walls t) (g.T.Terrain.leads t) g.T.Terrain.shard g.N.Naming.root (laws.walls_proofs_agree t) (laws.leads_proofs_agree t) 16 (rows_of numbers before) (map list_of c.args.all.logs.items) c.args.all.starts.items c.requires.gathered in
    let all = found (λ (x : Gathered _ _). x.number) (key_in numbers) (λ (x : Gathered _ _). slots_of x.row) (g.T.Terrain.has_walls t) (g.T.Terrain.leads t) g.T.Terrain.shard g.N.Naming.root 16 before after (map list_of c.args.all.logs.items) c.args.all.starts.items c.in_ok-ranks.ranks.items gathered same c.requires.numbered (subst (λ (l : List (Gathered _ _)). AreRanks l c.in_ok-ranks.ranks.items) c.as_slice.ensures.value c.in_ok-ranks.ensures) in
    let lists = map {A = Vec (Lead _) Global} {B = List (Lead _)} (λ v. v.items) c.in_ok-keys.leads.items in
    let long : length lists ≡ length after = (let m = length-map {A = Vec (Lead _) Global} {B = List (Lead _)} c.in_ok-keys.leads.items (λ v. v.items) in let v = c.in_ok-keys.leads.ok.0 in let u = c.sort_records.new.records.ok.0 in let e = c.in_ok-keys.ensures.len in omega arith) in
    let at : IsAt (keys_in numbers after) c.rank_of-root.result g.N.Naming.root = subst (IsAt (keys_in numbers after) c.rank_of-root.result) c.requires.root.2 (c.rank_of-root.ensures.rank (keys_in numbers after) all) in
    subst (λ (keys : List (List ℤ)). IsGraph g.T.Terrain.order (g.T.Terrain.has_walls t) (g.T.Terrain.leads t) g.N.Naming.root keys lists c.rank_of-root.result) (sym c.in_ok-keys.ensures.keys)
    (graph_is (λ (x : Gathered _ _). x.number) (key_in numbers) (λ (x : Gathered _ _). slots_of x.row) g.T.Terrain.order laws.order_total laws.order_exact (g.T.Terrain.has_walls t) (g.T.Terrain.leads t) (laws.walls_agree t) (laws.leads_agree t) g.T.Terrain.shard g.N.Naming.root 16 before after (map list_of c.args.all.logs.items) c.args.all.starts.items gathered same c.requires.numbered c.sort_records.ensures.sorted lists long c.in_ok-keys.ensures.leads c.rank_of-root.result at)

pub returns-clause-size : goal.returns-clause-size
returns-clause-size g c =
    let before = c.args.all.records.items in
    let after = c.sort_records.new.records.items in
    let same = c.sort_records.ensures.permutation in
    let numbers = g.T.Key.Numbers.numbers in
    let keys = ap length c.in_ok-keys.ensures.keys in
    let a = length-map c.in_ok-keys.keys.items numbers in
    let b = length-map after (key_in numbers) in
    let many = length_permutation before after same in
    let v = c.in_ok-keys.keys.ok.0 in
    let u = c.args.all.records.ok.0 in
    omega arith
