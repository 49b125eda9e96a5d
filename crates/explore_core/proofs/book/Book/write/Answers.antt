use Rattle.std.proofs.Common.{◌≡◌, length, set, None, Some, arith, sym, ◌∙◌, subst, refl, ap}
use Rattle.std.specs.Prelude.{option_map}
use mathlib.Core.Logic.{∥∥₁_map}
use Rattle.std.proofs.lemmas.List.{length-map}
use Rattle.std.proofs.lemmas.Option.{slice_get_read}
use Rattle.std.specs.Vec.{with_item}
use Rattle.terrain.specs.Places.{IsAt}
use Rattle.terrain.proofs.CallerLemmas.{at_one, at_within, at_map}
use Rattle.explore_core.specs.Books.{Row, IsSound, keys_of, out}
use Rattle.explore_core.specs.Events.{with_slot}
use Rattle.explore_core.specs.Records.{row_of, slot_of}
use Rattle.explore_core.specs.Views.{rows_of}
use Rattle.explore_core.proofs.Sound.{sound_filled}
use Rattle.explore_core.proofs.CallerLemmas.{index_as}
use Rattle.explore_core.proofs.Closed.{has_at_place}
use Rattle.explore_core.proofs.RecordRows.{row_read, rows-written, keys-written, placed-written}
use Rattle.explore_core.proofs.Outs.{out-set}
use Rattle.explore_core.proofs.book.Book.write.Goals as goal

pub index-requires : goal.index-requires
index-requires g c =
    let numbers = g.T.Key.Numbers.numbers in
    let book = c.args.self.now in
    let w = at_within (keys_of (rows_of book)) c.args.to c.requires.1 c.requires.4 in
    let l = length-map (rows_of book) (λ (r : Row _). r.key) in
    let m = length-map book.records.items (row_of numbers) in
    let v = book.records.ok.0 in
    omega arith

pub index_mut-requires : goal.index_mut-requires
index_mut-requires g c =
    let numbers = g.T.Key.Numbers.numbers in
    let book = c.args.self.now in
    let rows = rows_of book in
    let r = c.requires in
    let found = c.index_mut-record.result.now in
    let at = row_read numbers book.records.items c.args.place found (at_within rows c.args.place r.0 r.2) c.index_mut-record.ensures.value in
    let w = at_within r.0.slots c.args.wall None r.3 in
    let e = ap (λ (x : Row _). length x.slots) (at_one rows c.args.place r.0 (row_of numbers found) r.2 at) in
    let l = length-map found.slots.items (option_map (slot_of numbers)) in
    let v = found.slots.ok.0 in
    omega arith

pub overflow_sub-self : goal.overflow_sub-self
overflow_sub-self g c =
    let r = c.requires in
    let h = out-set (rows_of c.args.self.now) c.args.place r.0 c.args.wall (record { target = r.1; link = c.args.link }) r.2 r.3 in
    let k = c.args.self.now.counted in
    omega arith

pub invariant_of-self-clause-sound : goal.invariant_of-self-clause-sound
invariant_of-self-clause-sound g c =
    let numbers = g.T.Key.Numbers.numbers in
    let book = c.args.self.now in
    let rows = rows_of book in
    let r = c.requires in
    let found = c.index_mut-record.result.now in
    let at = row_read numbers book.records.items c.args.place found (at_within rows c.args.place r.0 r.2) c.index_mut-record.ensures.value in
    let to = row_read numbers book.records.items c.args.to c.index.result.now (let w = at_within (keys_of rows) c.args.to r.1 r.4 in let l = length-map rows (λ (x : Row _). x.key) in omega arith) c.index.ensures in
    let target : numbers c.of-target.result.value ≡ r.1 = ap numbers c.of-target.ensures ∙ at_one (keys_of rows) c.args.to (numbers c.index.result.now.key) r.1 (at_map (λ (x : Row _). x.key) rows c.args.to (row_of numbers c.index.result.now) to) r.4 in
    let new = rows-written numbers book.records.items c.args.place found (record { key = found.key; slots = with_item found.slots c.args.wall (Some (record { target = c.of-target.result; place = c.args.to; link = c.args.link })) }) r.0 c.args.wall (record { target = c.of-target.result; place = c.args.to; link = c.args.link }) r.2 at refl refl ∙ ap (λ d. set rows c.args.place (with_slot r.0 c.args.wall (record { target = d; link = c.args.link }))) target in
    ∥∥₁_map book.sound (λ (s : IsSound _ _ _ rows). subst (IsSound _ _ _) (sym new) (sound_filled _ _ _ rows c.args.place r.0 c.args.wall (record { target = r.1; link = c.args.link }) r.2 s r.5 (has_at_place rows c.args.to r.1 r.4)))

pub invariant_of-self-clause-placed : goal.invariant_of-self-clause-placed
invariant_of-self-clause-placed g c =
    let numbers = g.T.Key.Numbers.numbers in
    let book = c.args.self.now in
    let rows = rows_of book in
    let r = c.requires in
    let found = c.index_mut-record.result.now in
    let at = row_read numbers book.records.items c.args.place found (at_within rows c.args.place r.0 r.2) c.index_mut-record.ensures.value in
    let to = row_read numbers book.records.items c.args.to c.index.result.now (let w = at_within (keys_of rows) c.args.to r.1 r.4 in let l = length-map rows (λ (x : Row _). x.key) in omega arith) c.index.ensures in
    let target : numbers c.of-target.result.value ≡ r.1 = ap numbers c.of-target.ensures ∙ at_one (keys_of rows) c.args.to (numbers c.index.result.now.key) r.1 (at_map (λ (x : Row _). x.key) rows c.args.to (row_of numbers c.index.result.now) to) r.4 in
    let stands = slice_get_read book.records.items (length book.records.items) c.args.place found refl (let w = at_within rows c.args.place r.0 r.2 in let l = length-map book.records.items (row_of numbers) in omega arith) c.index_mut-record.ensures.value in
    placed-written numbers book.records.items c.args.place found (record { key = found.key; slots = with_item found.slots c.args.wall (Some (record { target = c.of-target.result; place = c.args.to; link = c.args.link })) }) r.0 c.args.wall (record { target = c.of-target.result; place = c.args.to; link = c.args.link }) r.2 at refl refl stands (subst (IsAt (keys_of rows) c.args.to) (sym target) r.4) book.placed

pub invariant_of-self-clause-index : goal.invariant_of-self-clause-index
invariant_of-self-clause-index g c =
    let numbers = g.T.Key.Numbers.numbers in
    let book = c.args.self.now in
    let rows = rows_of book in
    let r = c.requires in
    let found = c.index_mut-record.result.now in
    let at = row_read numbers book.records.items c.args.place found (at_within rows c.args.place r.0 r.2) c.index_mut-record.ensures.value in
    index_as g.T.Terrain.order _ _ _ _ (keys-written numbers book.records.items c.args.place found (record { key = found.key; slots = with_item found.slots c.args.wall (Some (record { target = c.of-target.result; place = c.args.to; link = c.args.link })) }) r.0 c.args.wall (record { target = c.of-target.result; place = c.args.to; link = c.args.link }) r.2 at refl refl) refl book.index

pub invariant_of-self-clause-counted : goal.invariant_of-self-clause-counted
invariant_of-self-clause-counted g c =
    let numbers = g.T.Key.Numbers.numbers in
    let book = c.args.self.now in
    let rows = rows_of book in
    let r = c.requires in
    let found = c.index_mut-record.result.now in
    let at = row_read numbers book.records.items c.args.place found (at_within rows c.args.place r.0 r.2) c.index_mut-record.ensures.value in
    let to = row_read numbers book.records.items c.args.to c.index.result.now (let w = at_within (keys_of rows) c.args.to r.1 r.4 in let l = length-map rows (λ (x : Row _). x.key) in omega arith) c.index.ensures in
    let target : numbers c.of-target.result.value ≡ r.1 = ap numbers c.of-target.ensures ∙ at_one (keys_of rows) c.args.to (numbers c.index.result.now.key) r.1 (at_map (λ (x : Row _). x.key) rows c.args.to (row_of numbers c.index.result.now) to) r.4 in
    let new = rows-written numbers book.records.items c.args.place found (record { key = found.key; slots = with_item found.slots c.args.wall (Some (record { target = c.of-target.result; place = c.args.to; link = c.args.link })) }) r.0 c.args.wall (record { target = c.of-target.result; place = c.args.to; link = c.args.link }) r.2 at refl refl ∙ ap (λ d. set rows c.args.place (with_slot r.0 c.args.wall (record { target = d; link = c.args.link }))) target in
    let h = out-set rows c.args.place r.0 c.args.wall (record { target = r.1; link = c.args.link }) r.2 r.3 in
    let k = book.counted in
    let o = ap out new in
    omega arith

pub returns-clause-filled : goal.returns-clause-filled
returns-clause-filled g c =
    let numbers = g.T.Key.Numbers.numbers in
    let book = c.args.self.now in
    let rows = rows_of book in
    let r = c.requires in
    let found = c.index_mut-record.result.now in
    let at = row_read numbers book.records.items c.args.place found (at_within rows c.args.place r.0 r.2) c.index_mut-record.ensures.value in
    let to = row_read numbers book.records.items c.args.to c.index.result.now (let w = at_within (keys_of rows) c.args.to r.1 r.4 in let l = length-map rows (λ (x : Row _). x.key) in omega arith) c.index.ensures in
    let target : numbers c.of-target.result.value ≡ r.1 = ap numbers c.of-target.ensures ∙ at_one (keys_of rows) c.args.to (numbers c.index.result.now.key) r.1 (at_map (λ (x : Row _). x.key) rows c.args.to (row_of numbers c.index.result.now) to) r.4 in
    let new = rows-written numbers book.records.items c.args.place found (record { key = found.key; slots = with_item found.slots c.args.wall (Some (record { target = c.of-target.result; place = c.args.to; link = c.args.link })) }) r.0 c.args.wall (record { target = c.of-target.result; place = c.args.to; link = c.args.link }) r.2 at refl refl ∙ ap (λ d. set rows c.args.place (with_slot r.0 c.args.wall (record { target = d; link = c.args.link }))) target in
    (r.0, r.1, r.2, r.4, new)
