use Rattle.std.proofs.Common.{◌∙◌, length, map, None, arith, subst, refl, ap}
use Rattle.std.specs.Prelude.{option_map}
use Rattle.std.proofs.lemmas.List.{length-map}
use Rattle.std.proofs.lemmas.Option.{slice_get_read, get_or_from_slice_get}
use Rattle.terrain.specs.Places.{IsAt}
use Rattle.terrain.proofs.CallerLemmas.{at_within, at_one, map_at}
use Rattle.explore_core.specs.Books.{Row, keys_of}
use Rattle.explore_core.specs.Records.{row_of, slot_of}
use Rattle.explore_core.specs.Views.{rows_of}
use Rattle.explore_core.proofs.EmptySlots.{none_from, none_or_some}
use Rattle.explore_core.proofs.Known.{not_open}
use Rattle.explore_core.proofs.RecordRows.{row_read, none_shown, none_behind}
use Rattle.explore_core.proofs.book.Book.open_at.Goals as goal
use Rattle.explore_core.proofs.book.Book.open_at.Goals.{else-wall-len-via-then-wall-len+else-is_none, else-wall-len-via-else-wall-len}

pub index-record-requires : goal.index-record-requires
index-record-requires g c =
    let book = c.args.self.now in
    let h = at_within (keys_of (rows_of book)) c.in-Ok.place (g.T.Key.Numbers.numbers c.args.from.now) c.in-Ok.ensures.found in
    let k = length-map (rows_of book) (λ (r : Row _). r.key) in
    let l = length-map book.records.items (row_of g.T.Key.Numbers.numbers) in
    let v = book.records.ok.0 in
    omega arith

pub returns-then-is_none-clause-open : goal.returns-then-is_none-clause-open
returns-then-is_none-clause-open g c =
    let numbers = g.T.Key.Numbers.numbers in
    let book = c.args.self.now in
    let h = map_at (λ (r : Row _). r.key) (rows_of book) c.in-Ok.place (numbers c.args.from.now) c.in-Ok.ensures.found in
    let at = row_read numbers book.records.items c.in-Ok.place c.index-record.result.now (at_within (rows_of book) c.in-Ok.place h.0 h.1) c.index-record.ensures in
    let slots = c.index-record.result.now.slots in
    let v = slots.ok.0 in
    let here = slice_get_read slots.items (length slots.items) c.args.wall c.index.result.now refl (omega arith) c.index.ensures in
    (row_of numbers c.index-record.result.now, at, ap (λ r. r.key) (at_one (rows_of book) c.in-Ok.place (row_of numbers c.index-record.result.now) h.0 at h.1) ∙ h.2, none_shown (slot_of numbers) slots.items c.args.wall (subst (IsAt slots.items c.args.wall) (none_from c.index.result.now c.if-is_none.ensures) here))

pub returns-else-wall-len-clause-none : goal.returns-else-wall-len-clause-none
returns-else-wall-len-clause-none g c =
    let numbers = g.T.Key.Numbers.numbers in
    let book = c.args.self.now in
    let h = map_at (λ (r : Row _). r.key) (rows_of book) c.in-Ok.place (numbers c.args.from.now) c.in-Ok.ensures.found in
    let at = row_read numbers book.records.items c.in-Ok.place c.index-record.result.now (at_within (rows_of book) c.in-Ok.place h.0 h.1) c.index-record.ensures in
    let slots = c.index-record.result.now.slots in
    let v = slots.ok.0 in
    not_open _ _ _ (rows_of book) book.sound c.in-Ok.place (row_of numbers c.index-record.result.now) (numbers c.args.from.now) c.args.wall at (ap (λ r. r.key) (at_one (rows_of book) c.in-Ok.place (row_of numbers c.index-record.result.now) h.0 at h.1) ∙ h.2)
    (λ (shown : IsAt (map (option_map (slot_of numbers)) slots.items) c.args.wall None). let empty = none_behind (slot_of numbers) slots.items c.args.wall shown in elim c.else-wall-len.branch [
      | else-wall-len-via-then-wall-len+else-is_none w ↦ none_or_some w.index.result.now (w.index.ensures ∙ get_or_from_slice_get slots.items c.args.wall None w.index.result.now empty) w.if-is_none.ensures
      | else-wall-len-via-else-wall-len w ↦ (let i = at_within slots.items c.args.wall None empty in let j = w.if-wall-len.false in let k = c.len.ensures in absurd (omega arith))
    ])
