-- What the records of a book show.
use Rattle.std.specs.Prelude.{ℕ, ℤ, List, Some, map, option_map}
use Rattle.terrain.specs.Places.{IsAt}
use Rattle.explore_core.specs.declared.record.Filled.{Filled}
use Rattle.explore_core.specs.declared.record.Record.{Record}
use Rattle.explore_core.specs.Books.{Slot, Row, keys_of}

abbrev pub slot_of : {K L : Type 0} → (K → List ℤ) → Filled K L → Slot L
slot_of numbers f = record { target = numbers f.target.value; link = f.link }

abbrev pub row_of : {K L : Type 0} → (K → List ℤ) → Record K L → Row L
row_of numbers r = record { key = numbers r.key; slots = map (option_map (slot_of numbers)) r.slots.items }

-- the rows that records show
abbrev pub rows_from : {K L : Type 0} → (K → List ℤ) → List (Record K L) → List (Row L)
rows_from numbers records = map (row_of numbers) records

-- a filled slot has the place of its target
abbrev pub ArePlaced : {K L : Type 0} → (K → List ℤ) → List (Record K L) → Type 0
ArePlaced {K} {L} numbers records = (i w : ℕ) (r : Record K L) (f : Filled K L) → IsAt records i r → IsAt r.slots.items w (Some f) → IsAt (keys_of (rows_from numbers records)) f.place (numbers f.target.value)
