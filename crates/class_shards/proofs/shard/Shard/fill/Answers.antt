use Rattle.std.proofs.Common.{◌≡◌, ◌+◌, ◌∙◌, ℕ, List, length, set, Some, refl, sym, ap, subst, arith}
use Rattle.std.specs.Prelude.{ℤ, option_map}
use Rattle.std.specs.Arc.{arc_value}
use Rattle.std.specs.Vec.{with_item}
use Rattle.std.proofs.lemmas.List.{length-map, length-set}
use Rattle.std.proofs.lemmas.Option.{slice_get_read}
use mathlib.Core.Logic.{∥∥₁_map}
use Rattle.walls_out.specs.declared.entry.Entry.TheVariants.{Wall}
use Rattle.walls_out.specs.declared.view.View.{View}
use Rattle.walls_out.specs.Seats.{view_of}
use Rattle.walls_out.specs.Told.{WasOpen}
use Rattle.walls_out.specs.Views.{lowered, last_of, front_of}
use Rattle.receipt_log.specs.Logs.{place_of}
use Rattle.terrain.specs.Places.{IsAt}
use Rattle.terrain.proofs.CallerLemmas.{read}
use Rattle.explore_core.specs.Books.{Row, Slot, keys_of}
use Rattle.explore_core.specs.Events.{with_slot}
use Rattle.explore_core.specs.Index.{IsIndex}
use Rattle.class_shards.specs.Agreement.{IsShard, Agree}
use Rattle.class_shards.specs.Keepers.{number_or_0, keeper_number}
use Rattle.class_shards.specs.Rows.{before, total}
use Rattle.class_shards.specs.Stored.{slot_of, slots_of}
use Rattle.class_shards.specs.Targets.{target_of}
use Rattle.class_shards.specs.Views.{rows_of}
use Rattle.class_shards.proofs.Indices.{total_set}
use Rattle.class_shards.proofs.Agrees.{owes_one, was_empty, agrees}
use Rattle.class_shards.proofs.Fills.{filled_on, keys_set}
use Rattle.class_shards.proofs.Filling.{spot, owes, short, shows}
use Rattle.class_shards.proofs.Keepers.{keeps_own}
use Rattle.class_shards.proofs.Stored.{slots_shown}
use Rattle.class_shards.proofs.shard.Shard.fill.Goals as goal

pub lower-requires-clause-own : goal.lower-requires-clause-own
lower-requires-clause-own g c =
    let laws = g.met.T.Terrain g.world.𝓛 g.world.𝓜 g.world.𝓡 ((λ s x. x), (λ x. x), (λ x. x), λ x. x) in
    let s = c.args.self.now in
    let ticket = c.args.ticket in
    let number = keeper_number s.keeper in
    let v = view_of s.keeper in
    let u = view_of ticket.seat in
    let rows = rows_of s in
    let place = place_of ticket.source in
    let one = laws.walls_agree g.N.Naming.terrain in
    let prefix = c.meet.ensures.prefix in
    let spot = spot one s ticket c.requires.ticket prefix in
    let owes = owes one s ticket c.requires.ticket prefix in
    (number, before rows place + ticket.wall, ap (λ x. x.keeper) c.join.ensures.view ∙ s.keeps, ap (λ x. last_of x.owed) c.join.ensures.view ∙ ap last_of (owes_one v u (Wall number (before rows place + ticket.wall)) s.idle owes))

pub index_mut-row-requires : goal.index_mut-row-requires
index_mut-row-requires g c =
    let laws = g.met.T.Terrain g.world.𝓛 g.world.𝓜 g.world.𝓡 ((λ s x. x), (λ x. x), (λ x. x), λ x. x) in
    let s = c.args.self.now in
    let ticket = c.args.ticket in
    let number = keeper_number s.keeper in
    let v = view_of s.keeper in
    let u = view_of ticket.seat in
    let rows = rows_of s in
    let place = place_of ticket.source in
    let one = laws.walls_agree g.N.Naming.terrain in
    let prefix = c.meet.ensures.prefix in
    let spot = spot one s ticket c.requires.ticket prefix in
    let owes = owes one s ticket c.requires.ticket prefix in
    let h = short one s ticket c.requires.ticket prefix in
    let e = c.place-place.ensures.place in
    omega arith

pub index_mut-requires : goal.index_mut-requires
index_mut-requires g c =
    let laws = g.met.T.Terrain g.world.𝓛 g.world.𝓜 g.world.𝓡 ((λ s x. x), (λ x. x), (λ x. x), λ x. x) in
    let s = c.args.self.now in
    let ticket = c.args.ticket in
    let number = keeper_number s.keeper in
    let v = view_of s.keeper in
    let u = view_of ticket.seat in
    let rows = rows_of s in
    let place = place_of ticket.source in
    let one = laws.walls_agree g.N.Naming.terrain in
    let prefix = c.meet.ensures.prefix in
    let spot = spot one s ticket c.requires.ticket prefix in
    let owes = owes one s ticket c.requires.ticket prefix in
    let row = c.index_mut-row.result.now in
    let e : c.place-place.result ≡ place = c.place-place.ensures.place in
    let stands : IsAt s.rows.items place row = subst (λ i. IsAt s.rows.items i row) e (slice_get_read s.rows.items (length s.rows.items) c.place-place.result row refl (let h = short one s ticket c.requires.ticket prefix in omega arith) c.index_mut-row.ensures.value) in
    let n = ap length (slots_shown (λ a. g.T.Key.Numbers.numbers (arc_value a)) slots_of s.keys.items s.rows.items place spot.row row spot.at stands) in
    let w = spot.within in
    let l = row.slots.ok.0 in
    let m = length-map row.slots.items (option_map slot_of) in
    omega arith

pub returns-clause-filled : goal.returns-clause-filled
returns-clause-filled g c =
    let laws = g.met.T.Terrain g.world.𝓛 g.world.𝓜 g.world.𝓡 ((λ s x. x), (λ x. x), (λ x. x), λ x. x) in
    let s = c.args.self.now in
    let ticket = c.args.ticket in
    let number = keeper_number s.keeper in
    let v = view_of s.keeper in
    let u = view_of ticket.seat in
    let rows = rows_of s in
    let place = place_of ticket.source in
    let one = laws.walls_agree g.N.Naming.terrain in
    let prefix = c.meet.ensures.prefix in
    let spot = spot one s ticket c.requires.ticket prefix in
    let owes = owes one s ticket c.requires.ticket prefix in
    let row = c.index_mut-row.result.now in
    let e : c.place-place.result ≡ place = c.place-place.ensures.place in
    let stands : IsAt s.rows.items place row = subst (λ i. IsAt s.rows.items i row) e (slice_get_read s.rows.items (length s.rows.items) c.place-place.result row refl (let h = short one s ticket c.requires.ticket prefix in omega arith) c.index_mut-row.ensures.value) in
    let slot = c.filled-slot.result in
    let f : Slot g.row.T-Link.Denot = record { target = target_of c.args.target; link = c.args.link } in
    let holds : slot_of slot ≡ f = (λ i. record { target = target_of (c.filled-slot.ensures.target i); link = c.filled-slot.ensures.link i }) in
    let new = shows one s ticket c.requires.ticket prefix c.place-place.result row slot e stands ∙ ap (λ (x : Slot g.row.T-Link.Denot). set rows place (with_slot spot.row ticket.wall x)) holds in
    let view = c.lower.ensures.view ∙ ap lowered c.join.ensures.view in
    let same : keeper_number c.lower.new.self ≡ number = ap (λ (x : View). number_or_0 x.keeper) view in
    let o = read spot.row.slots ticket.wall spot.within in
    let was = subst WasOpen c.join.ensures.view c.lower.ensures.was_open in
    let empty = was_empty number rows v u s.idle place ticket.wall spot.row spot.at spot.within owes s.agree o.0 s.keeps o.1 was in
    (record { from = record { place = place; row = spot.row; at = spot.at; is = spot.is }; empty = o.1 ∙ ap Some empty; target = target_of c.args.target; link = c.args.link; leads = c.requires.leads }, refl, refl, new)

pub invariant_of-self-clause-keeps : goal.invariant_of-self-clause-keeps
invariant_of-self-clause-keeps g c =
    let laws = g.met.T.Terrain g.world.𝓛 g.world.𝓜 g.world.𝓡 ((λ s x. x), (λ x. x), (λ x. x), λ x. x) in
    let s = c.args.self.now in
    let ticket = c.args.ticket in
    let number = keeper_number s.keeper in
    let v = view_of s.keeper in
    let u = view_of ticket.seat in
    let rows = rows_of s in
    let place = place_of ticket.source in
    let one = laws.walls_agree g.N.Naming.terrain in
    let prefix = c.meet.ensures.prefix in
    let spot = spot one s ticket c.requires.ticket prefix in
    let owes = owes one s ticket c.requires.ticket prefix in
    let row = c.index_mut-row.result.now in
    let e : c.place-place.result ≡ place = c.place-place.ensures.place in
    let stands : IsAt s.rows.items place row = subst (λ i. IsAt s.rows.items i row) e (slice_get_read s.rows.items (length s.rows.items) c.place-place.result row refl (let h = short one s ticket c.requires.ticket prefix in omega arith) c.index_mut-row.ensures.value) in
    let slot = c.filled-slot.result in
    let f : Slot g.row.T-Link.Denot = record { target = target_of c.args.target; link = c.args.link } in
    let holds : slot_of slot ≡ f = (λ i. record { target = target_of (c.filled-slot.ensures.target i); link = c.filled-slot.ensures.link i }) in
    let new = shows one s ticket c.requires.ticket prefix c.place-place.result row slot e stands ∙ ap (λ (x : Slot g.row.T-Link.Denot). set rows place (with_slot spot.row ticket.wall x)) holds in
    let view = c.lower.ensures.view ∙ ap lowered c.join.ensures.view in
    let same : keeper_number c.lower.new.self ≡ number = ap (λ (x : View). number_or_0 x.keeper) view in
    keeps_own v.keeper (view_of c.lower.new.self).keeper (ap (λ (x : View). x.keeper) view) s.keeps

pub invariant_of-self-clause-logged : goal.invariant_of-self-clause-logged
invariant_of-self-clause-logged g c =
    let laws = g.met.T.Terrain g.world.𝓛 g.world.𝓜 g.world.𝓡 ((λ s x. x), (λ x. x), (λ x. x), λ x. x) in
    let s = c.args.self.now in
    let ticket = c.args.ticket in
    let number = keeper_number s.keeper in
    let v = view_of s.keeper in
    let u = view_of ticket.seat in
    let rows = rows_of s in
    let place = place_of ticket.source in
    let one = laws.walls_agree g.N.Naming.terrain in
    let prefix = c.meet.ensures.prefix in
    let spot = spot one s ticket c.requires.ticket prefix in
    let owes = owes one s ticket c.requires.ticket prefix in
    let row = c.index_mut-row.result.now in
    let e : c.place-place.result ≡ place = c.place-place.ensures.place in
    let stands : IsAt s.rows.items place row = subst (λ i. IsAt s.rows.items i row) e (slice_get_read s.rows.items (length s.rows.items) c.place-place.result row refl (let h = short one s ticket c.requires.ticket prefix in omega arith) c.index_mut-row.ensures.value) in
    let slot = c.filled-slot.result in
    let f : Slot g.row.T-Link.Denot = record { target = target_of c.args.target; link = c.args.link } in
    let holds : slot_of slot ≡ f = (λ i. record { target = target_of (c.filled-slot.ensures.target i); link = c.filled-slot.ensures.link i }) in
    let new = shows one s ticket c.requires.ticket prefix c.place-place.result row slot e stands ∙ ap (λ (x : Slot g.row.T-Link.Denot). set rows place (with_slot spot.row ticket.wall x)) holds in
    let view = c.lower.ensures.view ∙ ap lowered c.join.ensures.view in
    let same : keeper_number c.lower.new.self ≡ number = ap (λ (x : View). number_or_0 x.keeper) view in
    c.meet.ensures.same.0 ∙ s.logged ∙ ap g.N.Naming.logs (sym same)

pub invariant_of-self-clause-made : goal.invariant_of-self-clause-made
invariant_of-self-clause-made g c =
    let laws = g.met.T.Terrain g.world.𝓛 g.world.𝓜 g.world.𝓡 ((λ s x. x), (λ x. x), (λ x. x), λ x. x) in
    let s = c.args.self.now in
    let ticket = c.args.ticket in
    let number = keeper_number s.keeper in
    let v = view_of s.keeper in
    let u = view_of ticket.seat in
    let rows = rows_of s in
    let place = place_of ticket.source in
    let one = laws.walls_agree g.N.Naming.terrain in
    let prefix = c.meet.ensures.prefix in
    let spot = spot one s ticket c.requires.ticket prefix in
    let owes = owes one s ticket c.requires.ticket prefix in
    let row = c.index_mut-row.result.now in
    let e : c.place-place.result ≡ place = c.place-place.ensures.place in
    let stands : IsAt s.rows.items place row = subst (λ i. IsAt s.rows.items i row) e (slice_get_read s.rows.items (length s.rows.items) c.place-place.result row refl (let h = short one s ticket c.requires.ticket prefix in omega arith) c.index_mut-row.ensures.value) in
    let slot = c.filled-slot.result in
    let f : Slot g.row.T-Link.Denot = record { target = target_of c.args.target; link = c.args.link } in
    let holds : slot_of slot ≡ f = (λ i. record { target = target_of (c.filled-slot.ensures.target i); link = c.filled-slot.ensures.link i }) in
    let new = shows one s ticket c.requires.ticket prefix c.place-place.result row slot e stands ∙ ap (λ (x : Slot g.row.T-Link.Denot). set rows place (with_slot spot.row ticket.wall x)) holds in
    let view = c.lower.ensures.view ∙ ap lowered c.join.ensures.view in
    let same : keeper_number c.lower.new.self ≡ number = ap (λ (x : View). number_or_0 x.keeper) view in
    ap (λ x. x.made) view ∙ s.made ∙ sym (ap total new ∙ total_set rows place spot.row ticket.wall f spot.at)

pub invariant_of-self-clause-list : goal.invariant_of-self-clause-list
invariant_of-self-clause-list g c =
    let laws = g.met.T.Terrain g.world.𝓛 g.world.𝓜 g.world.𝓡 ((λ s x. x), (λ x. x), (λ x. x), λ x. x) in
    let s = c.args.self.now in
    let ticket = c.args.ticket in
    let number = keeper_number s.keeper in
    let v = view_of s.keeper in
    let u = view_of ticket.seat in
    let rows = rows_of s in
    let place = place_of ticket.source in
    let one = laws.walls_agree g.N.Naming.terrain in
    let prefix = c.meet.ensures.prefix in
    let spot = spot one s ticket c.requires.ticket prefix in
    let owes = owes one s ticket c.requires.ticket prefix in
    let row = c.index_mut-row.result.now in
    let e : c.place-place.result ≡ place = c.place-place.ensures.place in
    let stands : IsAt s.rows.items place row = subst (λ i. IsAt s.rows.items i row) e (slice_get_read s.rows.items (length s.rows.items) c.place-place.result row refl (let h = short one s ticket c.requires.ticket prefix in omega arith) c.index_mut-row.ensures.value) in
    let slot = c.filled-slot.result in
    let f : Slot g.row.T-Link.Denot = record { target = target_of c.args.target; link = c.args.link } in
    let holds : slot_of slot ≡ f = (λ i. record { target = target_of (c.filled-slot.ensures.target i); link = c.filled-slot.ensures.link i }) in
    let new = shows one s ticket c.requires.ticket prefix c.place-place.result row slot e stands ∙ ap (λ (x : Slot g.row.T-Link.Denot). set rows place (with_slot spot.row ticket.wall x)) holds in
    let view = c.lower.ensures.view ∙ ap lowered c.join.ensures.view in
    let same : keeper_number c.lower.new.self ≡ number = ap (λ (x : View). number_or_0 x.keeper) view in
    c.meet.ensures.same.1 ∙ s.list ∙ sym (ap keys_of new ∙ keys_set rows place spot.row ticket.wall f spot.at)

pub invariant_of-self-clause-idle : goal.invariant_of-self-clause-idle
invariant_of-self-clause-idle g c =
    let laws = g.met.T.Terrain g.world.𝓛 g.world.𝓜 g.world.𝓡 ((λ s x. x), (λ x. x), (λ x. x), λ x. x) in
    let s = c.args.self.now in
    let ticket = c.args.ticket in
    let number = keeper_number s.keeper in
    let v = view_of s.keeper in
    let u = view_of ticket.seat in
    let rows = rows_of s in
    let place = place_of ticket.source in
    let one = laws.walls_agree g.N.Naming.terrain in
    let prefix = c.meet.ensures.prefix in
    let spot = spot one s ticket c.requires.ticket prefix in
    let owes = owes one s ticket c.requires.ticket prefix in
    let row = c.index_mut-row.result.now in
    let e : c.place-place.result ≡ place = c.place-place.ensures.place in
    let stands : IsAt s.rows.items place row = subst (λ i. IsAt s.rows.items i row) e (slice_get_read s.rows.items (length s.rows.items) c.place-place.result row refl (let h = short one s ticket c.requires.ticket prefix in omega arith) c.index_mut-row.ensures.value) in
    let slot = c.filled-slot.result in
    let f : Slot g.row.T-Link.Denot = record { target = target_of c.args.target; link = c.args.link } in
    let holds : slot_of slot ≡ f = (λ i. record { target = target_of (c.filled-slot.ensures.target i); link = c.filled-slot.ensures.link i }) in
    let new = shows one s ticket c.requires.ticket prefix c.place-place.result row slot e stands ∙ ap (λ (x : Slot g.row.T-Link.Denot). set rows place (with_slot spot.row ticket.wall x)) holds in
    let view = c.lower.ensures.view ∙ ap lowered c.join.ensures.view in
    let same : keeper_number c.lower.new.self ≡ number = ap (λ (x : View). number_or_0 x.keeper) view in
    ap (λ x. x.owed) view ∙ ap front_of (owes_one v u (Wall number (before rows place + ticket.wall)) s.idle owes)

pub invariant_of-self-clause-index : goal.invariant_of-self-clause-index
invariant_of-self-clause-index g c =
    let laws = g.met.T.Terrain g.world.𝓛 g.world.𝓜 g.world.𝓡 ((λ s x. x), (λ x. x), (λ x. x), λ x. x) in
    let s = c.args.self.now in
    let ticket = c.args.ticket in
    let number = keeper_number s.keeper in
    let v = view_of s.keeper in
    let u = view_of ticket.seat in
    let rows = rows_of s in
    let place = place_of ticket.source in
    let one = laws.walls_agree g.N.Naming.terrain in
    let prefix = c.meet.ensures.prefix in
    let spot = spot one s ticket c.requires.ticket prefix in
    let owes = owes one s ticket c.requires.ticket prefix in
    let row = c.index_mut-row.result.now in
    let e : c.place-place.result ≡ place = c.place-place.ensures.place in
    let stands : IsAt s.rows.items place row = subst (λ i. IsAt s.rows.items i row) e (slice_get_read s.rows.items (length s.rows.items) c.place-place.result row refl (let h = short one s ticket c.requires.ticket prefix in omega arith) c.index_mut-row.ensures.value) in
    let slot = c.filled-slot.result in
    let f : Slot g.row.T-Link.Denot = record { target = target_of c.args.target; link = c.args.link } in
    let holds : slot_of slot ≡ f = (λ i. record { target = target_of (c.filled-slot.ensures.target i); link = c.filled-slot.ensures.link i }) in
    let new = shows one s ticket c.requires.ticket prefix c.place-place.result row slot e stands ∙ ap (λ (x : Slot g.row.T-Link.Denot). set rows place (with_slot spot.row ticket.wall x)) holds in
    let view = c.lower.ensures.view ∙ ap lowered c.join.ensures.view in
    let same : keeper_number c.lower.new.self ≡ number = ap (λ (x : View). number_or_0 x.keeper) view in
    subst (λ (x : List (List ℤ)). IsIndex g.T.Terrain.order x s.places.items) (sym (ap keys_of new ∙ keys_set rows place spot.row ticket.wall f spot.at)) s.index

pub invariant_of-self-clause-sound : goal.invariant_of-self-clause-sound
invariant_of-self-clause-sound g c =
    let laws = g.met.T.Terrain g.world.𝓛 g.world.𝓜 g.world.𝓡 ((λ s x. x), (λ x. x), (λ x. x), λ x. x) in
    let s = c.args.self.now in
    let ticket = c.args.ticket in
    let number = keeper_number s.keeper in
    let v = view_of s.keeper in
    let u = view_of ticket.seat in
    let rows = rows_of s in
    let place = place_of ticket.source in
    let one = laws.walls_agree g.N.Naming.terrain in
    let prefix = c.meet.ensures.prefix in
    let spot = spot one s ticket c.requires.ticket prefix in
    let owes = owes one s ticket c.requires.ticket prefix in
    let row = c.index_mut-row.result.now in
    let e : c.place-place.result ≡ place = c.place-place.ensures.place in
    let stands : IsAt s.rows.items place row = subst (λ i. IsAt s.rows.items i row) e (slice_get_read s.rows.items (length s.rows.items) c.place-place.result row refl (let h = short one s ticket c.requires.ticket prefix in omega arith) c.index_mut-row.ensures.value) in
    let slot = c.filled-slot.result in
    let f : Slot g.row.T-Link.Denot = record { target = target_of c.args.target; link = c.args.link } in
    let holds : slot_of slot ≡ f = (λ i. record { target = target_of (c.filled-slot.ensures.target i); link = c.filled-slot.ensures.link i }) in
    let new = shows one s ticket c.requires.ticket prefix c.place-place.result row slot e stands ∙ ap (λ (x : Slot g.row.T-Link.Denot). set rows place (with_slot spot.row ticket.wall x)) holds in
    let view = c.lower.ensures.view ∙ ap lowered c.join.ensures.view in
    let same : keeper_number c.lower.new.self ≡ number = ap (λ (x : View). number_or_0 x.keeper) view in
    let walls = g.T.Terrain.has_walls g.N.Naming.terrain in
    let leads = g.T.Terrain.leads g.N.Naming.terrain in
    let shard_of = g.T.Terrain.shard in
    let root = g.N.Naming.root in
    ∥∥₁_map s.sound (λ (x : IsShard walls leads shard_of root number rows). subst (λ (y : ℕ × List (Row g.row.T-Link.Denot)). IsShard walls leads shard_of root y.0 y.1) (λ i. (sym same i, sym new i)) (filled_on walls leads shard_of root number rows place spot.row ticket.wall f spot.at (subst (λ (k : List ℤ). g.T.Terrain.leads g.N.Naming.terrain k ticket.wall f.target c.args.link) (sym spot.is) c.requires.leads) x))

pub invariant_of-self-clause-agree : goal.invariant_of-self-clause-agree
invariant_of-self-clause-agree g c =
    let laws = g.met.T.Terrain g.world.𝓛 g.world.𝓜 g.world.𝓡 ((λ s x. x), (λ x. x), (λ x. x), λ x. x) in
    let s = c.args.self.now in
    let ticket = c.args.ticket in
    let number = keeper_number s.keeper in
    let v = view_of s.keeper in
    let u = view_of ticket.seat in
    let rows = rows_of s in
    let place = place_of ticket.source in
    let one = laws.walls_agree g.N.Naming.terrain in
    let prefix = c.meet.ensures.prefix in
    let spot = spot one s ticket c.requires.ticket prefix in
    let owes = owes one s ticket c.requires.ticket prefix in
    let row = c.index_mut-row.result.now in
    let e : c.place-place.result ≡ place = c.place-place.ensures.place in
    let stands : IsAt s.rows.items place row = subst (λ i. IsAt s.rows.items i row) e (slice_get_read s.rows.items (length s.rows.items) c.place-place.result row refl (let h = short one s ticket c.requires.ticket prefix in omega arith) c.index_mut-row.ensures.value) in
    let slot = c.filled-slot.result in
    let f : Slot g.row.T-Link.Denot = record { target = target_of c.args.target; link = c.args.link } in
    let holds : slot_of slot ≡ f = (λ i. record { target = target_of (c.filled-slot.ensures.target i); link = c.filled-slot.ensures.link i }) in
    let new = shows one s ticket c.requires.ticket prefix c.place-place.result row slot e stands ∙ ap (λ (x : Slot g.row.T-Link.Denot). set rows place (with_slot spot.row ticket.wall x)) holds in
    let view = c.lower.ensures.view ∙ ap lowered c.join.ensures.view in
    let same : keeper_number c.lower.new.self ≡ number = ap (λ (x : View). number_or_0 x.keeper) view in
    subst (λ (x : ℕ × View × List (Row g.row.T-Link.Denot)). Agree x.0 x.1 x.2) (λ i. (sym same i, sym view i, sym new i)) (agrees number rows v u s.idle place ticket.wall spot.row spot.at spot.within owes s.agree f)

pub invariant_of-self-clause-long : goal.invariant_of-self-clause-long
invariant_of-self-clause-long g c =
    let laws = g.met.T.Terrain g.world.𝓛 g.world.𝓜 g.world.𝓡 ((λ s x. x), (λ x. x), (λ x. x), λ x. x) in
    let s = c.args.self.now in
    let ticket = c.args.ticket in
    let number = keeper_number s.keeper in
    let v = view_of s.keeper in
    let u = view_of ticket.seat in
    let rows = rows_of s in
    let place = place_of ticket.source in
    let one = laws.walls_agree g.N.Naming.terrain in
    let prefix = c.meet.ensures.prefix in
    let spot = spot one s ticket c.requires.ticket prefix in
    let owes = owes one s ticket c.requires.ticket prefix in
    let row = c.index_mut-row.result.now in
    let e : c.place-place.result ≡ place = c.place-place.ensures.place in
    let stands : IsAt s.rows.items place row = subst (λ i. IsAt s.rows.items i row) e (slice_get_read s.rows.items (length s.rows.items) c.place-place.result row refl (let h = short one s ticket c.requires.ticket prefix in omega arith) c.index_mut-row.ensures.value) in
    let slot = c.filled-slot.result in
    let f : Slot g.row.T-Link.Denot = record { target = target_of c.args.target; link = c.args.link } in
    let holds : slot_of slot ≡ f = (λ i. record { target = target_of (c.filled-slot.ensures.target i); link = c.filled-slot.ensures.link i }) in
    let new = shows one s ticket c.requires.ticket prefix c.place-place.result row slot e stands ∙ ap (λ (x : Slot g.row.T-Link.Denot). set rows place (with_slot spot.row ticket.wall x)) holds in
    let view = c.lower.ensures.view ∙ ap lowered c.join.ensures.view in
    let same : keeper_number c.lower.new.self ≡ number = ap (λ (x : View). number_or_0 x.keeper) view in
    s.long ∙ sym (length-set s.rows.items c.place-place.result (record { slots = with_item row.slots ticket.wall (Some slot) }))
