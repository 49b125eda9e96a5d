use Rattle.walls_out.specs.Seats.{view_of}
use Rattle.receipt_log.specs.Logs.{list_of}
use Rattle.std.proofs.Common.{◌≡◌, ◌∷◌, [], ◌++◌, ◌+◌, ◌-◌, ◌∙◌, ℕ, Some, length, vec_len, sym, ap, subst, arith}
use Rattle.std.specs.Prelude.{slice_index_or}
use Rattle.walls_out.specs.declared.view.View.{View}
use Rattle.walls_out.specs.Views.{fresh, front_of, last_of}
use Rattle.class_shards.specs.Entries.{IsSlot}
use Rattle.terrain.specs.Places.{IsAt}
use Rattle.terrain.proofs.CallerLemmas.{snoc_end}
use Rattle.class_shards.proofs.Fresh.{slot_as}
use Rattle.class_shards.proofs.Meetings.{end_read, raised_owes}
use Rattle.class_shards.proofs.meet.enter.Goals as goal

pub raise-requires-clause-keeper : goal.raise-requires-clause-keeper
raise-requires-clause-keeper g c = (g.T.Terrain.shard (g.T.Key.Numbers.numbers c.args.key.now), ap (λ (x : View). x.keeper) c.join.ensures.view ∙ c.requires.keeps)

pub hand_out-tickets-requires-clause-keys : goal.hand_out-tickets-requires-clause-keys
hand_out-tickets-requires-clause-keys g c κs within =
    let numbers = g.T.Key.Numbers.numbers in
    let old = (list_of c.args.log.now) in
    let k = numbers c.args.key.now in
    let v = (view_of c.args.keeper.now) in
    let u = (view_of c.args.seat) in
    let list = c.append-place.ensures.list in
    let place = c.append-place.ensures.place in
    let at : slice_index_or (list_of c.append-place.new.self) c.append-place.result [] ≡ k = (λ i. slice_index_or (list i) (place i) []) ∙ end_read old k in
    λ i a there. ap numbers (c.requires.keys i a there) ∙ sym at

pub hand_out-tickets-requires-clause-slots : goal.hand_out-tickets-requires-clause-slots
hand_out-tickets-requires-clause-slots g c κs within =
    let numbers = g.T.Key.Numbers.numbers in
    let old = (list_of c.args.log.now) in
    let k = numbers c.args.key.now in
    let v = (view_of c.args.keeper.now) in
    let u = (view_of c.args.seat) in
    let list = c.append-place.ensures.list in
    let place = c.append-place.ensures.place in
    let at : slice_index_or (list_of c.append-place.new.self) c.append-place.result [] ≡ k = (λ i. slice_index_or (list i) (place i) []) ∙ end_read old k in
    let made : (view_of c.raise.new.self).made ≡ v.made + c.len-walls.result = ap (λ (x : View). x.made) c.raise.ensures.view ∙ ap (λ (x : View). x.made + c.len-walls.result) c.join.ensures.view in
    let n = c.len-walls.ensures in
    let walls = g.T.Terrain.has_walls g.N.Naming.terrain in
    let keys' = (list_of c.append-place.new.self) in
    let k' = slice_index_or (list_of c.append-place.new.self) c.append-place.result [] in
    λ w h. subst (λ (p : ℕ). ∥ IsSlot walls k' keys' p w ((view_of c.raise.new.self).made - vec_len c.args.keys + w) ∥₁) (sym place) (slot_as walls k k' (old ++ k ∷ []) keys' (length old) w (v.made + w) ((view_of c.raise.new.self).made - vec_len c.args.keys + w) at list (omega arith) (c.requires.slots w h))

pub split-seat-requires-clause-owes : goal.split-seat-requires-clause-owes
split-seat-requires-clause-owes g c =
    let numbers = g.T.Key.Numbers.numbers in
    let old = (list_of c.args.log.now) in
    let k = numbers c.args.key.now in
    let v = (view_of c.args.keeper.now) in
    let u = (view_of c.args.seat) in
    let list = c.append-place.ensures.list in
    let place = c.append-place.ensures.place in
    let at : slice_index_or (list_of c.append-place.new.self) c.append-place.result [] ≡ k = (λ i. slice_index_or (list i) (place i) []) ∙ end_read old k in
    let e = c.requires.owes.0 in
    let owed : (view_of c.raise.new.self).owed ≡ e ∷ fresh (Some (g.T.Terrain.shard (slice_index_or (list_of c.append-place.new.self) c.append-place.result []))) ((view_of c.raise.new.self).made - vec_len c.args.keys) (vec_len c.args.keys) = raised_owes v u (view_of c.join.new.self) (view_of c.raise.new.self) e (g.T.Terrain.shard (slice_index_or (list_of c.append-place.new.self) c.append-place.result [])) (vec_len c.args.keys) c.len-walls.result c.requires.idle c.requires.owes.1 (c.requires.keeps ∙ ap (λ x. Some (g.T.Terrain.shard x)) (sym at)) c.join.ensures.view c.raise.ensures.view c.len-walls.ensures in
    let out : (view_of c.hand_out-tickets.new.keeper).owed ≡ e ∷ [] = c.hand_out-tickets.ensures.owes e owed in
    let l = ap length out in
    omega arith

pub returns-clause-keeper : goal.returns-clause-keeper
returns-clause-keeper g c =
    let numbers = g.T.Key.Numbers.numbers in
    let old = (list_of c.args.log.now) in
    let k = numbers c.args.key.now in
    let v = (view_of c.args.keeper.now) in
    let u = (view_of c.args.seat) in
    let list = c.append-place.ensures.list in
    let place = c.append-place.ensures.place in
    let at : slice_index_or (list_of c.append-place.new.self) c.append-place.result [] ≡ k = (λ i. slice_index_or (list i) (place i) []) ∙ end_read old k in
    let e = c.requires.owes.0 in
    let owed : (view_of c.raise.new.self).owed ≡ e ∷ fresh (Some (g.T.Terrain.shard (slice_index_or (list_of c.append-place.new.self) c.append-place.result []))) ((view_of c.raise.new.self).made - vec_len c.args.keys) (vec_len c.args.keys) = raised_owes v u (view_of c.join.new.self) (view_of c.raise.new.self) e (g.T.Terrain.shard (slice_index_or (list_of c.append-place.new.self) c.append-place.result [])) (vec_len c.args.keys) c.len-walls.result c.requires.idle c.requires.owes.1 (c.requires.keeps ∙ ap (λ x. Some (g.T.Terrain.shard x)) (sym at)) c.join.ensures.view c.raise.ensures.view c.len-walls.ensures in
    let out : (view_of c.hand_out-tickets.new.keeper).owed ≡ e ∷ [] = c.hand_out-tickets.ensures.owes e owed in
    let left = c.split-seat.ensures.left in
    let same = c.hand_out-tickets.ensures.same in
    let raise = c.raise.ensures.view in
    let join = c.join.ensures.view in (
      ap (λ (x : View). x.keeper) left ∙ same.0 ∙ ap (λ (x : View). x.keeper) raise ∙ ap (λ (x : View). x.keeper) join,
      ap (λ (x : View). x.made) left ∙ same.1 ∙ ap (λ (x : View). x.made) raise ∙ (λ i. (join i).made + c.len-walls.ensures i),
      ap (λ (x : View). x.done) left ∙ same.2 ∙ ap (λ (x : View). x.done) raise ∙ ap (λ (x : View). x.done) join,
      ap (λ (x : View). x.owed) left ∙ ap front_of out,
    )

pub returns-clause-receipt : goal.returns-clause-receipt
returns-clause-receipt g c =
    let numbers = g.T.Key.Numbers.numbers in
    let old = (list_of c.args.log.now) in
    let k = numbers c.args.key.now in
    let v = (view_of c.args.keeper.now) in
    let u = (view_of c.args.seat) in
    let list = c.append-place.ensures.list in
    let place = c.append-place.ensures.place in
    let at : slice_index_or (list_of c.append-place.new.self) c.append-place.result [] ≡ k = (λ i. slice_index_or (list i) (place i) []) ∙ end_read old k in
    let note = c.note-receipt.ensures in
    let log = c.hand_out-tickets.ensures.log in (
      note.name.1 ∙ log.1 ∙ c.append-place.ensures.name,
      note.seen ∙ log.0 ∙ list,
      subst (λ (p : ℕ). IsAt (old ++ k ∷ []) p k) (sym (note.place ∙ place)) (snoc_end old k),
    )

pub returns-clause-seat : goal.returns-clause-seat
returns-clause-seat g c =
    let numbers = g.T.Key.Numbers.numbers in
    let old = (list_of c.args.log.now) in
    let k = numbers c.args.key.now in
    let v = (view_of c.args.keeper.now) in
    let u = (view_of c.args.seat) in
    let list = c.append-place.ensures.list in
    let place = c.append-place.ensures.place in
    let at : slice_index_or (list_of c.append-place.new.self) c.append-place.result [] ≡ k = (λ i. slice_index_or (list i) (place i) []) ∙ end_read old k in
    let e = c.requires.owes.0 in
    let owed : (view_of c.raise.new.self).owed ≡ e ∷ fresh (Some (g.T.Terrain.shard (slice_index_or (list_of c.append-place.new.self) c.append-place.result []))) ((view_of c.raise.new.self).made - vec_len c.args.keys) (vec_len c.args.keys) = raised_owes v u (view_of c.join.new.self) (view_of c.raise.new.self) e (g.T.Terrain.shard (slice_index_or (list_of c.append-place.new.self) c.append-place.result [])) (vec_len c.args.keys) c.len-walls.result c.requires.idle c.requires.owes.1 (c.requires.keeps ∙ ap (λ x. Some (g.T.Terrain.shard x)) (sym at)) c.join.ensures.view c.raise.ensures.view c.len-walls.ensures in
    let out : (view_of c.hand_out-tickets.new.keeper).owed ≡ e ∷ [] = c.hand_out-tickets.ensures.owes e owed in
    let right = c.split-seat.ensures.right in
    (c.split-seat.ensures.name.1 ∙ c.hand_out-tickets.ensures.table, ap (λ (x : View). x.keeper) right, ap (λ (x : View). x.owed) right ∙ ap last_of out ∙ sym c.requires.owes.1)
