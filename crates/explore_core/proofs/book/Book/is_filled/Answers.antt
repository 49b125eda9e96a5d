use Rattle.std.proofs.Common.{◌<◌, ◌∙◌, length, refl, sym, ap, arith, Some}
use Rattle.std.specs.Prelude.{option_map}
use Rattle.std.proofs.lemmas.List.{length-map}
use Rattle.std.proofs.lemmas.Option.{slice_get_read}
use Rattle.terrain.proofs.CallerLemmas.{at_one, at_within}
use Rattle.explore_core.specs.Books.{Row}
use Rattle.explore_core.specs.Records.{row_of, slot_of}
use Rattle.explore_core.specs.Views.{rows_of}
use Rattle.explore_core.proofs.RecordRows.{row_read, none_shown, some_shown}
use Rattle.explore_core.proofs.EmptySlots.{some_from, none_from}
use Rattle.explore_core.proofs.book.Book.is_filled.Goals as goal

pub returns-clause-filled : goal.returns-clause-filled
returns-clause-filled g c full =
    let numbers = g.T.Key.Numbers.numbers in
    let book = c.args.self.now in
    let found = c.index-record.result.now in
    let at = row_read numbers book.records.items c.args.place found (at_within (rows_of book) c.args.place c.requires.0 c.requires.1) c.index-record.ensures in
    let within : c.args.wall < length found.slots.items = (let w = c.requires.2 in let e = ap (λ (r : Row _). length r.slots) (at_one (rows_of book) c.args.place c.requires.0 (row_of numbers found) c.requires.1 at) in let l = length-map found.slots.items (option_map (slot_of numbers)) in omega arith) in
    let slot = slice_get_read found.slots.items (length found.slots.items) c.args.wall c.index.result.now refl within c.index.ensures in
    let some = some_from c.index.result.now (sym c.is_some.ensures ∙ full) in
    (row_of numbers found, slot_of numbers some.0, at, some_shown (slot_of numbers) found.slots.items c.args.wall some.0 (slot ∙ ap Some some.1))

pub returns-clause-empty : goal.returns-clause-empty
returns-clause-empty g c none =
    let numbers = g.T.Key.Numbers.numbers in
    let book = c.args.self.now in
    let found = c.index-record.result.now in
    let at = row_read numbers book.records.items c.args.place found (at_within (rows_of book) c.args.place c.requires.0 c.requires.1) c.index-record.ensures in
    let within : c.args.wall < length found.slots.items = (let w = c.requires.2 in let e = ap (λ (r : Row _). length r.slots) (at_one (rows_of book) c.args.place c.requires.0 (row_of numbers found) c.requires.1 at) in let l = length-map found.slots.items (option_map (slot_of numbers)) in omega arith) in
    let slot = slice_get_read found.slots.items (length found.slots.items) c.args.wall c.index.result.now refl within c.index.ensures in
    (row_of numbers found, at, none_shown (slot_of numbers) found.slots.items c.args.wall (slot ∙ ap Some (none_from c.index.result.now (sym c.is_some.ensures ∙ none))))
