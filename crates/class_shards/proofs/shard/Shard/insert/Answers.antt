use Rattle.walls_out.specs.Seats.{view_of}
use Rattle.std.proofs.Common.{◌≡◌, ◌∷◌, [], ◌++◌, ◌+◌, ◌∙◌, ℕ, List, length, vec_len, sym, ap, subst, arith}
use Rattle.std.specs.Prelude.{ℤ, insert, map, option_map}
use Rattle.std.specs.Arc.{arc_value}
use Rattle.std.proofs.lemmas.List.{length-map, length-append}
use Rattle.class_shards.specs.Entries.{IsSlot}
use Rattle.explore_core.specs.Books.{Row, keys_of, empty_row}
use Rattle.class_shards.specs.Rows.{total}
use Rattle.class_shards.specs.Keepers.{number_or_0, keeper_number}
use Rattle.class_shards.specs.Stored.{slot_of, slots_of}
use Rattle.class_shards.specs.Views.{rows_of}
use Rattle.class_shards.specs.Agreement.{IsShard, Agree}
use Rattle.explore_core.proofs.CallerLemmas.{index_more, index_as}
use Rattle.class_shards.proofs.Stored.{rows_length, added, map_none}
use Rattle.class_shards.proofs.NewKey.{agree_new, total_more}
use Rattle.class_shards.proofs.Meetings.{own_if_reached, keys_more, total_few, slots_new, filing_more, not_there_new}
use Rattle.class_shards.proofs.Keepers.{keeps_own}
use Rattle.class_shards.proofs.shard.Shard.insert.Goals as goal

pub enter-receipt-requires-clause-few : goal.enter-receipt-requires-clause-few
enter-receipt-requires-clause-few g c κs within =
    let laws = g.met.T.Terrain g.world.𝓛 g.world.𝓜 g.world.𝓡 ((λ s x. x), (λ x. x), (λ x. x), λ x. x) in
    let numbers = g.T.Key.Numbers.numbers in
    let t = g.N.Naming.terrain in
    let s = c.args.self.now in
    let number = keeper_number s.keeper in
    let rows = rows_of s in
    let k = numbers (arc_value c.args.key) in
    let n = vec_len c.args.room.owners in
    let key : numbers c.deref.result.now ≡ k = ap numbers c.deref.ensures in
    let few = total_few (g.T.Terrain.has_walls t) (g.T.Terrain.leads t) g.T.Terrain.shard g.N.Naming.root number rows s.sound (laws.walls_few t) in
    let made = s.made in
    let l = rows_length (λ a. numbers (arc_value a)) slots_of s.keys.items s.rows.items s.long in
    let m = length-map rows (λ (x : Row _). x.key) in
    let keys = ap length s.list in
    let space = c.requires.space in
    let limited = s.limited.1 in
    let rows = s.rows.ok.0 in
    (omega arith, laws.walls_few t k n c.requires.walls, omega arith)

pub enter-receipt-requires-clause-keys : goal.enter-receipt-requires-clause-keys
enter-receipt-requires-clause-keys g c κs within = λ i a there. c.requires.keys i a there ∙ sym c.deref.ensures

pub enter-receipt-requires-clause-own : goal.enter-receipt-requires-clause-own
enter-receipt-requires-clause-own g c κs within =
    let laws = g.met.T.Terrain g.world.𝓛 g.world.𝓜 g.world.𝓡 ((λ s x. x), (λ x. x), (λ x. x), λ x. x) in
    let numbers = g.T.Key.Numbers.numbers in
    let t = g.N.Naming.terrain in
    let s = c.args.self.now in
    let number = keeper_number s.keeper in
    let rows = rows_of s in
    let k = numbers (arc_value c.args.key) in
    let n = vec_len c.args.room.owners in
    let key : numbers c.deref.result.now ≡ k = ap numbers c.deref.ensures in
    subst (λ (x : List ℤ). ∥ g.T.Terrain.is_own t x ∥₁) (sym key) (own_if_reached (g.T.Terrain.is_own t) (g.T.Terrain.has_walls t) (g.T.Terrain.leads t) (laws.own_proofs_agree t) (laws.leads_own t) g.N.Naming.root k s.own c.requires.reached)

pub enter-receipt-requires-clause-slots : goal.enter-receipt-requires-clause-slots
enter-receipt-requires-clause-slots g c κs within =
    let laws = g.met.T.Terrain g.world.𝓛 g.world.𝓜 g.world.𝓡 ((λ s x. x), (λ x. x), (λ x. x), λ x. x) in
    let numbers = g.T.Key.Numbers.numbers in
    let t = g.N.Naming.terrain in
    let s = c.args.self.now in
    let number = keeper_number s.keeper in
    let rows = rows_of s in
    let k = numbers (arc_value c.args.key) in
    let n = vec_len c.args.room.owners in
    let key : numbers c.deref.result.now ≡ k = ap numbers c.deref.ensures in
    λ w h. subst (λ (x : List ℤ × List (List ℤ) × ℕ). ∥ IsSlot (g.T.Terrain.has_walls t) x.0 (x.1 ++ x.0 ∷ []) (length x.1) w (x.2 + w) ∥₁) (λ i. (sym key i, sym s.list i, sym s.made i)) (slots_new (g.T.Terrain.has_walls t) (g.T.Terrain.leads t) g.T.Terrain.shard g.N.Naming.root number rows s.sound k n w c.requires.walls h)

pub invariant_of-self-clause-keeps : goal.invariant_of-self-clause-keeps
invariant_of-self-clause-keeps g c = let s = c.args.self.now in keeps_own (view_of s.keeper).keeper (view_of c.enter-receipt.new.keeper).keeper c.enter-receipt.ensures.keeper.0 s.keeps

pub invariant_of-self-clause-logged : goal.invariant_of-self-clause-logged
invariant_of-self-clause-logged g c = let s = c.args.self.now in c.enter-receipt.ensures.log.1 ∙ s.logged ∙ ap (λ x. g.N.Naming.logs (number_or_0 x)) (sym c.enter-receipt.ensures.keeper.0)

pub invariant_of-self-clause-made : goal.invariant_of-self-clause-made
invariant_of-self-clause-made g c =
    let laws = g.met.T.Terrain g.world.𝓛 g.world.𝓜 g.world.𝓡 ((λ s x. x), (λ x. x), (λ x. x), λ x. x) in
    let numbers = g.T.Key.Numbers.numbers in
    let t = g.N.Naming.terrain in
    let s = c.args.self.now in
    let number = keeper_number s.keeper in
    let rows = rows_of s in
    let k = numbers (arc_value c.args.key) in
    let n = vec_len c.args.room.owners in
    let key : numbers c.deref.result.now ≡ k = ap numbers c.deref.ensures in
    let new = added (λ a. numbers (arc_value a)) slots_of s.keys.items c.push_reserved.new.self.items s.rows.items c.push_reserved-2.new.self.items c.args.key (record { slots = c.args.room.slots }) n s.long c.push_reserved.ensures.items c.push_reserved-2.ensures.items (ap (map (option_map slot_of)) c.requires.slots ∙ map_none slot_of n) in
    c.enter-receipt.ensures.keeper.1 ∙ ap (λ (x : ℕ). x + n) s.made ∙ sym (ap total new ∙ total_more rows k n)

pub invariant_of-self-clause-list : goal.invariant_of-self-clause-list
invariant_of-self-clause-list g c =
    let laws = g.met.T.Terrain g.world.𝓛 g.world.𝓜 g.world.𝓡 ((λ s x. x), (λ x. x), (λ x. x), λ x. x) in
    let numbers = g.T.Key.Numbers.numbers in
    let t = g.N.Naming.terrain in
    let s = c.args.self.now in
    let number = keeper_number s.keeper in
    let rows = rows_of s in
    let k = numbers (arc_value c.args.key) in
    let n = vec_len c.args.room.owners in
    let key : numbers c.deref.result.now ≡ k = ap numbers c.deref.ensures in
    let new = added (λ a. numbers (arc_value a)) slots_of s.keys.items c.push_reserved.new.self.items s.rows.items c.push_reserved-2.new.self.items c.args.key (record { slots = c.args.room.slots }) n s.long c.push_reserved.ensures.items c.push_reserved-2.ensures.items (ap (map (option_map slot_of)) c.requires.slots ∙ map_none slot_of n) in
    c.enter-receipt.ensures.log.0 ∙ (λ i. s.list i ++ key i ∷ []) ∙ sym (ap keys_of new ∙ keys_more rows k n)

pub invariant_of-self-clause-index : goal.invariant_of-self-clause-index
invariant_of-self-clause-index g c =
    let laws = g.met.T.Terrain g.world.𝓛 g.world.𝓜 g.world.𝓡 ((λ s x. x), (λ x. x), (λ x. x), λ x. x) in
    let numbers = g.T.Key.Numbers.numbers in
    let t = g.N.Naming.terrain in
    let s = c.args.self.now in
    let number = keeper_number s.keeper in
    let rows = rows_of s in
    let k = numbers (arc_value c.args.key) in
    let n = vec_len c.args.room.owners in
    let key : numbers c.deref.result.now ≡ k = ap numbers c.deref.ensures in
    let new = added (λ a. numbers (arc_value a)) slots_of s.keys.items c.push_reserved.new.self.items s.rows.items c.push_reserved-2.new.self.items c.args.key (record { slots = c.args.room.slots }) n s.long c.push_reserved.ensures.items c.push_reserved-2.ensures.items (ap (map (option_map slot_of)) c.requires.slots ∙ map_none slot_of n) in
    let place : c.len-place.result ≡ length (keys_of rows) = (let l = rows_length (λ a. numbers (arc_value a)) slots_of s.keys.items s.rows.items s.long in let m = length-map rows (λ (x : Row _). x.key) in let rows = s.rows.ok.0 in let e = c.len-place.ensures in omega arith) in
    index_as g.T.Terrain.order _ (keys_of rows ++ k ∷ []) _ (insert s.places.items c.args.gap (length (keys_of rows))) (ap keys_of new ∙ keys_more rows k n) (c.put.ensures ∙ ap (insert s.places.items c.args.gap) place) (index_more g.T.Terrain.order (keys_of rows) s.places.items k c.args.gap s.index c.requires.gap)

pub invariant_of-self-clause-sound : goal.invariant_of-self-clause-sound
invariant_of-self-clause-sound g c =
    let laws = g.met.T.Terrain g.world.𝓛 g.world.𝓜 g.world.𝓡 ((λ s x. x), (λ x. x), (λ x. x), λ x. x) in
    let numbers = g.T.Key.Numbers.numbers in
    let t = g.N.Naming.terrain in
    let s = c.args.self.now in
    let number = keeper_number s.keeper in
    let rows = rows_of s in
    let k = numbers (arc_value c.args.key) in
    let n = vec_len c.args.room.owners in
    let key : numbers c.deref.result.now ≡ k = ap numbers c.deref.ensures in
    let new = added (λ a. numbers (arc_value a)) slots_of s.keys.items c.push_reserved.new.self.items s.rows.items c.push_reserved-2.new.self.items c.args.key (record { slots = c.args.room.slots }) n s.long c.push_reserved.ensures.items c.push_reserved-2.ensures.items (ap (map (option_map slot_of)) c.requires.slots ∙ map_none slot_of n) in
    let same : keeper_number c.enter-receipt.new.keeper ≡ number = ap number_or_0 c.enter-receipt.ensures.keeper.0 in
    subst (λ (x : ℕ × List (Row _)). ∥ IsShard (g.T.Terrain.has_walls t) (g.T.Terrain.leads t) g.T.Terrain.shard g.N.Naming.root x.0 x.1 ∥₁) (λ i. (sym same i, sym new i)) (filing_more (g.T.Terrain.has_walls t) (g.T.Terrain.leads t) g.T.Terrain.shard g.N.Naming.root number rows s.sound k n c.requires.belongs c.requires.reached c.requires.walls (not_there_new rows k c.requires.fresh))

pub invariant_of-self-clause-agree : goal.invariant_of-self-clause-agree
invariant_of-self-clause-agree g c =
    let laws = g.met.T.Terrain g.world.𝓛 g.world.𝓜 g.world.𝓡 ((λ s x. x), (λ x. x), (λ x. x), λ x. x) in
    let numbers = g.T.Key.Numbers.numbers in
    let t = g.N.Naming.terrain in
    let s = c.args.self.now in
    let number = keeper_number s.keeper in
    let rows = rows_of s in
    let k = numbers (arc_value c.args.key) in
    let n = vec_len c.args.room.owners in
    let key : numbers c.deref.result.now ≡ k = ap numbers c.deref.ensures in
    let new = added (λ a. numbers (arc_value a)) slots_of s.keys.items c.push_reserved.new.self.items s.rows.items c.push_reserved-2.new.self.items c.args.key (record { slots = c.args.room.slots }) n s.long c.push_reserved.ensures.items c.push_reserved-2.ensures.items (ap (map (option_map slot_of)) c.requires.slots ∙ map_none slot_of n) in
    let same : keeper_number c.enter-receipt.new.keeper ≡ number = ap number_or_0 c.enter-receipt.ensures.keeper.0 in
    subst (λ (x : ℕ × List (Row g.row.T-Link.Denot)). Agree x.0 (view_of c.enter-receipt.new.keeper) x.1) (λ i. (sym same i, sym new i)) (agree_new number (view_of s.keeper) (view_of c.enter-receipt.new.keeper) rows k n s.agree c.enter-receipt.ensures.keeper.2)

pub returns-clause-added : goal.returns-clause-added
returns-clause-added g c =
    let laws = g.met.T.Terrain g.world.𝓛 g.world.𝓜 g.world.𝓡 ((λ s x. x), (λ x. x), (λ x. x), λ x. x) in
    let numbers = g.T.Key.Numbers.numbers in
    let t = g.N.Naming.terrain in
    let s = c.args.self.now in
    let number = keeper_number s.keeper in
    let rows = rows_of s in
    let k = numbers (arc_value c.args.key) in
    let n = vec_len c.args.room.owners in
    let key : numbers c.deref.result.now ≡ k = ap numbers c.deref.ensures in
    let new = added (λ a. numbers (arc_value a)) slots_of s.keys.items c.push_reserved.new.self.items s.rows.items c.push_reserved-2.new.self.items c.args.key (record { slots = c.args.room.slots }) n s.long c.push_reserved.ensures.items c.push_reserved-2.ensures.items (ap (map (option_map slot_of)) c.requires.slots ∙ map_none slot_of n) in
    new

pub returns-clause-count : goal.returns-clause-count
returns-clause-count g c =
    let laws = g.met.T.Terrain g.world.𝓛 g.world.𝓜 g.world.𝓡 ((λ s x. x), (λ x. x), (λ x. x), λ x. x) in
    let numbers = g.T.Key.Numbers.numbers in
    let t = g.N.Naming.terrain in
    let s = c.args.self.now in
    let number = keeper_number s.keeper in
    let rows = rows_of s in
    let k = numbers (arc_value c.args.key) in
    let n = vec_len c.args.room.owners in
    let key : numbers c.deref.result.now ≡ k = ap numbers c.deref.ensures in
    let new = added (λ a. numbers (arc_value a)) slots_of s.keys.items c.push_reserved.new.self.items s.rows.items c.push_reserved-2.new.self.items c.args.key (record { slots = c.args.room.slots }) n s.long c.push_reserved.ensures.items c.push_reserved-2.ensures.items (ap (map (option_map slot_of)) c.requires.slots ∙ map_none slot_of n) in
    let e = ap length new in
    let more = length-append rows (empty_row k n ∷ []) in
    let l = rows_length (λ a. numbers (arc_value a)) slots_of s.keys.items s.rows.items s.long in
    let ok = s.rows.ok.0 in
    let place = c.len-place.ensures in
    omega arith

pub returns-clause-each : goal.returns-clause-each
returns-clause-each g c = λ i t there. let each = c.enter-receipt.ensures.each i t there in (each.0 ∙ ap g.T.Key.Numbers.numbers c.deref.ensures, each.1)
