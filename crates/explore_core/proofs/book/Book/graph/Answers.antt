use Rattle.std.proofs.Common.{◌≡◌, ◌<◌, ◌∙◌, ℕ, List, Vec, Global, vec_len, length, map, refl, sym, ap, subst, arith}
use Rattle.std.proofs.lemmas.List.{length-map}
use Rattle.std.proofs.lemmas.Option.{slice_get_read}
use Rattle.terrain.specs.declared.graph.Lead.{Lead}
use Rattle.terrain.specs.Places.{IsAt}
use Rattle.explore_core.specs.declared.record.Record.{Record}
use Rattle.terrain.proofs.CallerLemmas.{at_within}
use Rattle.explore_core.specs.Books.{Row, keys_of}
use Rattle.explore_core.specs.Ranks.{ArePlaces, AreRanked}
use Rattle.explore_core.specs.Records.{row_of}
use Rattle.explore_core.specs.Views.{rows_of}
use Rattle.explore_core.proofs.Closed.{sound_of, closed}
use Rattle.explore_core.proofs.Graphed.{each_once, filled_records, graph_of, graph_reached}
use Rattle.explore_core.proofs.book.Book.graph.Goals as goal

pub ranks_of-requires-clause-places : goal.ranks_of-requires-clause-places
ranks_of-requires-clause-places g c =
    let self = c.args.self in
    let places = self.places.items in
    let laws = g.met.T.Terrain g.world.𝓛 g.world.𝓜 g.world.𝓡 ((λ s x. x), (λ x. x), (λ x. x), λ x. x) in
    let keys = keys_of (rows_of self) in
    let once : ArePlaces (length keys) places = each_once g.T.Terrain.order laws.order_total keys places self.index in
    subst (λ (x : List ℕ). ArePlaces (length x) x) (sym c.as_slice.ensures.value) (subst (λ (n : ℕ). ArePlaces n places) (sym self.index.long) once)

pub in_order-requires : goal.in_order-requires
in_order-requires g c =
    let self = c.args.self in
    let places = self.places.items in
    let laws = g.met.T.Terrain g.world.𝓛 g.world.𝓜 g.world.𝓡 ((λ s x. x), (λ x. x), (λ x. x), λ x. x) in
    let keys = keys_of (rows_of self) in
    let once : ArePlaces (length keys) places = each_once g.T.Terrain.order laws.order_total keys places self.index in
    let size : length keys ≡ vec_len self.records = (let l = length-map self.records.items (row_of g.T.Key.Numbers.numbers) in let m = length-map (rows_of self) (λ (r : Row _). r.key) in let v = self.records.ok.0 in omega arith) in
    subst (λ (x : List ℕ). ArePlaces (vec_len self.records) x) (sym c.as_slice-2.ensures.value) (subst (λ (n : ℕ). ArePlaces n places) size once)

pub all_leads-requires : goal.all_leads-requires
all_leads-requires g c =
    let self = c.args.self in
    let numbers = g.T.Key.Numbers.numbers in
    let places = self.places.items in
    let ordered = c.in_ok-records.records.items in
    let two = c.as_slice-2.ensures.value in
    let size : length ordered ≡ length places = (let v = c.in_ok-records.records.ok.0 in let n = c.in_ok-records.ensures.0 in let l = ap length two in omega arith) in
    let moved = subst (λ (x : List ℕ). (i a : ℕ) (r : Record g.row.T-Key.Denot g.row.T-Link.Denot) → IsAt x i a → IsAt self.records.items a r → IsAt ordered i r) two c.in_ok-records.ensures.1 in
    let many : length c.as_slice-3.result.now ≡ length places = (let a = c.as_slice-3.ensures.len in let b = c.in_ok-ranks.ensures.0 in let l = ap length c.as_slice.ensures.value in omega arith) in
    filled_records numbers g.T.Terrain.order self.records.items ordered places self.placed self.index c.requires size moved (length c.as_slice-3.result.now) many

pub index-requires : goal.index-requires
index-requires g c =
    let self = c.args.self in
    let numbers = g.T.Key.Numbers.numbers in
    let laws = g.met.T.Terrain g.world.𝓛 g.world.𝓜 g.world.𝓡 ((λ s x. x), (λ x. x), (λ x. x), λ x. x) in
    let t = g.T.Numbers.numbers self.terrain.value in
    let sound = sound_of g.T.Terrain.order laws.order_total laws.order_exact (g.T.Terrain.has_walls t) (g.T.Terrain.leads t) (numbers self.root.value) (rows_of self) (laws.walls_proofs_agree t) (laws.leads_proofs_agree t) self.sound in
    let some : 0 < length (keys_of (rows_of self)) = at_within (keys_of (rows_of self)) 0 _ sound.root_first in
    let l = self.index.long in
    let b = c.in_ok-ranks.ensures.0 in
    let a = ap length c.as_slice.ensures.value in
    omega arith

pub returns-clause-book : goal.returns-clause-book
returns-clause-book g c =
    let self = c.args.self in
    let numbers = g.T.Key.Numbers.numbers in
    let places = self.places.items in
    let ordered = c.in_ok-records.records.items in
    let laws = g.met.T.Terrain g.world.𝓛 g.world.𝓜 g.world.𝓡 ((λ s x. x), (λ x. x), (λ x. x), λ x. x) in
    let two = c.as_slice-2.ensures.value in
    let size : length ordered ≡ length places = (let v = c.in_ok-records.records.ok.0 in let n = c.in_ok-records.ensures.0 in let l = ap length two in omega arith) in
    let moved = subst (λ (x : List ℕ). (i a : ℕ) (r : Record g.row.T-Key.Denot g.row.T-Link.Denot) → IsAt x i a → IsAt self.records.items a r → IsAt ordered i r) two c.in_ok-records.ensures.1 in
    let t = g.T.Numbers.numbers self.terrain.value in
    let sound = sound_of g.T.Terrain.order laws.order_total laws.order_exact (g.T.Terrain.has_walls t) (g.T.Terrain.leads t) (numbers self.root.value) (rows_of self) (laws.walls_proofs_agree t) (laws.leads_proofs_agree t) self.sound in
    let some : 0 < length (keys_of (rows_of self)) = at_within (keys_of (rows_of self)) 0 _ sound.root_first in
    let ranks = c.in_ok-ranks.ranks.items in
    let ranked = subst (λ (x : List ℕ). (i a : ℕ) → IsAt x i a → IsAt ranks a i) c.as_slice.ensures.value c.in_ok-ranks.ensures.1 in
    let ks = c.in_ok-keys.keys.items in
    let is : ks ≡ map (λ (r : Record g.row.T-Key.Denot g.row.T-Link.Denot). r.key) ordered = c.in_ok-keys.ensures ∙ c.in_ok-leads.ensures.keys in
    let lists = map (λ (v : Vec (Lead g.row.T-Link.Denot) Global). v.items) c.in_ok-leads.leads.items in
    let each = subst (λ (x : List ℕ). (i : ℕ) (r : Record g.row.T-Key.Denot g.row.T-Link.Denot) → IsAt ordered i r → (q : List (Lead g.row.T-Link.Denot)) × IsAt lists i q × AreRanked x r.slots.items q) c.as_slice-3.ensures.value c.in_ok-leads.ensures.leads.1 in
    let long : length lists ≡ length places = (let a = length-map c.in_ok-leads.leads.items (λ (v : Vec (Lead g.row.T-Link.Denot) Global). v.items) in let b = c.in_ok-leads.leads.ok.0 in let d = c.in_ok-leads.ensures.leads.0 in let v = c.in_ok-records.records.ok.0 in omega arith) in
    let first : IsAt ranks 0 c.index.result.now = slice_get_read ranks (length ranks) 0 c.index.result.now refl (let l = self.index.long in let b = c.in_ok-ranks.ensures.0 in let v = c.in_ok-ranks.ranks.ok.0 in let a = ap length c.as_slice.ensures.value in omega arith) c.index.ensures in
    let of_book = graph_of numbers g.T.Terrain.order self.records.items ordered places self.placed self.index c.requires size moved ranks ranked ks is lists long each c.index.result.now first in
    of_book

pub returns-clause-reached : goal.returns-clause-reached
returns-clause-reached g c =
    let self = c.args.self in
    let numbers = g.T.Key.Numbers.numbers in
    let places = self.places.items in
    let ordered = c.in_ok-records.records.items in
    let laws = g.met.T.Terrain g.world.𝓛 g.world.𝓜 g.world.𝓡 ((λ s x. x), (λ x. x), (λ x. x), λ x. x) in
    let two = c.as_slice-2.ensures.value in
    let size : length ordered ≡ length places = (let v = c.in_ok-records.records.ok.0 in let n = c.in_ok-records.ensures.0 in let l = ap length two in omega arith) in
    let moved = subst (λ (x : List ℕ). (i a : ℕ) (r : Record g.row.T-Key.Denot g.row.T-Link.Denot) → IsAt x i a → IsAt self.records.items a r → IsAt ordered i r) two c.in_ok-records.ensures.1 in
    let t = g.T.Numbers.numbers self.terrain.value in
    let sound = sound_of g.T.Terrain.order laws.order_total laws.order_exact (g.T.Terrain.has_walls t) (g.T.Terrain.leads t) (numbers self.root.value) (rows_of self) (laws.walls_proofs_agree t) (laws.leads_proofs_agree t) self.sound in
    let some : 0 < length (keys_of (rows_of self)) = at_within (keys_of (rows_of self)) 0 _ sound.root_first in
    let ranks = c.in_ok-ranks.ranks.items in
    let ranked = subst (λ (x : List ℕ). (i a : ℕ) → IsAt x i a → IsAt ranks a i) c.as_slice.ensures.value c.in_ok-ranks.ensures.1 in
    let ks = c.in_ok-keys.keys.items in
    let is : ks ≡ map (λ (r : Record g.row.T-Key.Denot g.row.T-Link.Denot). r.key) ordered = c.in_ok-keys.ensures ∙ c.in_ok-leads.ensures.keys in
    let lists = map (λ (v : Vec (Lead g.row.T-Link.Denot) Global). v.items) c.in_ok-leads.leads.items in
    let each = subst (λ (x : List ℕ). (i : ℕ) (r : Record g.row.T-Key.Denot g.row.T-Link.Denot) → IsAt ordered i r → (q : List (Lead g.row.T-Link.Denot)) × IsAt lists i q × AreRanked x r.slots.items q) c.as_slice-3.ensures.value c.in_ok-leads.ensures.leads.1 in
    let long : length lists ≡ length places = (let a = length-map c.in_ok-leads.leads.items (λ (v : Vec (Lead g.row.T-Link.Denot) Global). v.items) in let b = c.in_ok-leads.leads.ok.0 in let d = c.in_ok-leads.ensures.leads.0 in let v = c.in_ok-records.records.ok.0 in omega arith) in
    let first : IsAt ranks 0 c.index.result.now = slice_get_read ranks (length ranks) 0 c.index.result.now refl (let l = self.index.long in let b = c.in_ok-ranks.ensures.0 in let v = c.in_ok-ranks.ranks.ok.0 in let a = ap length c.as_slice.ensures.value in omega arith) c.index.ensures in
    let of_book = graph_of numbers g.T.Terrain.order self.records.items ordered places self.placed self.index c.requires size moved ranks ranked ks is lists long each c.index.result.now first in
    let all = closed g.T.Terrain.order laws.order_total laws.order_exact (g.T.Terrain.has_walls t) (g.T.Terrain.leads t) (numbers self.root.value) (rows_of self) (laws.walls_agree t) (laws.leads_agree t) c.requires self.sound in
    graph_reached g.T.Terrain.order (g.T.Terrain.has_walls t) (g.T.Terrain.leads t) (numbers self.root.value) (rows_of self) (map numbers ks) lists c.index.result.now sound all of_book
