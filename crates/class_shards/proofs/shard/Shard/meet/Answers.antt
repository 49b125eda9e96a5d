use Rattle.std.proofs.Common.{◌≡◌, ◌∷◌, [], ◌++◌, ◌∙◌, List, refl, sym, subst, inl, inr}
use Rattle.std.specs.Arc.{arc_value}
use Rattle.terrain.specs.Places.{IsAt}
use Rattle.explore_core.specs.Books.{Row, HasKey, keys_of, empty_row}
use Rattle.class_shards.specs.Stored.{rows_in}
use Rattle.class_shards.specs.Views.{rows_of}
use Rattle.class_shards.proofs.Meetings.{has_at}
use Rattle.class_shards.proofs.shard.Shard.meet.Goals as goal

pub returns-in-Ok-clause-met : goal.returns-in-Ok-clause-met
returns-in-Ok-clause-met g c =
    let numbers = g.T.Key.Numbers.numbers in
    let s = c.args.self.now in
    let rows = rows_of s in
    let k = numbers (arc_value c.args.key) in
    let there : HasKey rows k = has_at rows k c.in-Ok.place (subst (λ (x : _). IsAt (keys_of rows) c.in-Ok.place (numbers x)) c.deref.ensures c.in-Ok.ensures.found) in
    inl (there, (λ i. rows_in numbers (c.note.ensures.same.2 i) (c.note.ensures.same.3 i)))

pub returns-in-Ok-clause-tickets : goal.returns-in-Ok-clause-tickets
returns-in-Ok-clause-tickets g c =
    let numbers = g.T.Key.Numbers.numbers in
    let s = c.args.self.now in
    let rows = rows_of s in
    let k = numbers (arc_value c.args.key) in
    let there : HasKey rows k = has_at rows k c.in-Ok.place (subst (λ (x : _). IsAt (keys_of rows) c.in-Ok.place (numbers x)) c.deref.ensures c.in-Ok.ensures.found) in
    λ fresh. absurd (fresh there)

pub returns-in-Ok-clause-refused : goal.returns-in-Ok-clause-refused
returns-in-Ok-clause-refused g c =
    let numbers = g.T.Key.Numbers.numbers in
    let s = c.args.self.now in
    let rows = rows_of s in
    let k = numbers (arc_value c.args.key) in
    let there : HasKey rows k = has_at rows k c.in-Ok.place (subst (λ (x : _). IsAt (keys_of rows) c.in-Ok.place (numbers x)) c.deref.ensures c.in-Ok.ensures.found) in
    λ fresh. absurd (fresh there)

pub returns-then-is_full-clause-refused : goal.returns-then-is_full-clause-refused
returns-then-is_full-clause-refused g c = λ fresh len. (c.note-receipt.result, refl)

pub insert-requires-clause-fresh : goal.insert-requires-clause-fresh
insert-requires-clause-fresh g c κs within =
    let numbers = g.T.Key.Numbers.numbers in
    let s = c.args.self.now in
    let rows = rows_of s in
    let k = numbers (arc_value c.args.key) in
    let fresh : HasKey rows k → ⊥ = subst (λ (x : _). HasKey rows (numbers x) → ⊥) c.deref.ensures c.in-Err.ensures.fresh in
    let same : rows_of c.make_room.new.self ≡ rows = (λ i. rows_in numbers (c.make_room.ensures.same.2 i) (c.make_room.ensures.same.3 i)) in
    subst (λ (x : List (Row g.row.T-Link.Denot)). HasKey x k → ⊥) (sym same) fresh

pub returns-in-Ok-make_room-clause-met : goal.returns-in-Ok-make_room-clause-met
returns-in-Ok-make_room-clause-met g c =
    let numbers = g.T.Key.Numbers.numbers in
    let s = c.args.self.now in
    let rows = rows_of s in
    let k = numbers (arc_value c.args.key) in
    let fresh : HasKey rows k → ⊥ = subst (λ (x : _). HasKey rows (numbers x) → ⊥) c.deref.ensures c.in-Err.ensures.fresh in
    let same : rows_of c.make_room.new.self ≡ rows = (λ i. rows_in numbers (c.make_room.ensures.same.2 i) (c.make_room.ensures.same.3 i)) in
    let len = c.in-Ok-take_room.ensures.len in
    inr (fresh, c.args.walls, c.requires.walls, c.insert.ensures.added ∙ (λ i. same i ++ empty_row k (len i) ∷ []))
