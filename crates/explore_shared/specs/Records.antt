-- What contracts see of the records that are out of their shards.
use Rattle.std.specs.Prelude.{◌≡◌, ℕ, ℤ, List, map}
use Rattle.std.specs.Arc.{arc_value}
use Rattle.atomic_table.specs.Seated.{TableId}
use Rattle.terrain.specs.declared.terrains.Terrain as terrains
use Rattle.terrain.specs.declared.numbers.Numbers as numbers
use Rattle.terrain.specs.Places.{IsAt}
use Rattle.receipt_log.specs.declared.keeper.LogKeeper.{LogKeeper}
use Rattle.receipt_log.specs.Logs.{name_of_log}
use Rattle.class_shards.specs.declared.naming.Naming as namings
use Rattle.class_shards.specs.declared.row.Row.{Row}
use Rattle.class_shards.specs.Stored.{slots_of}
use Rattle.explore_core.specs.Books as books
use Rattle.explore_shared.specs.declared.gathered.Gathered.{Gathered}

module _ {K R : Type 0} where
  -- the key of a record
  abbrev pub key_in : (K → List ℤ) → Gathered K R → List ℤ
  key_in numbers g = numbers (arc_value g.key)

  -- the keys of records
  abbrev pub keys_in : (K → List ℤ) → List (Gathered K R) → List (List ℤ)
  keys_in numbers records = map (key_in numbers) records

  -- each record has the number of its place
  abbrev pub AreNumbered : List (Gathered K R) → Type 0
  AreNumbered records = (i : ℕ) (g : Gathered K R) → IsAt records i g → g.number ≡ i

module _ {T N K L F W : Type 0} {G : terrains.Ghosts T K L F W} {A : numbers.Ghosts T} {B : numbers.Ghosts K} {M : namings.Ghosts N} where
  -- the row of a book that a record shows
  abbrev pub row_in : (K → List ℤ) → Gathered K (Row T N K L F W G A B M) → books.Row L
  row_in numbers g = record { key = numbers (arc_value g.key); slots = slots_of g.row }

  -- the rows of records
  abbrev pub rows_of : (K → List ℤ) → List (Gathered K (Row T N K L F W G A B M)) → List (books.Row L)
  rows_of numbers records = map (row_in numbers) records

-- the logs have the names for their places
abbrev pub AreNamed : {K : Type 0} {B : numbers.Ghosts K} → (ℕ → TableId) → List (LogKeeper K B) → Type 0
AreNamed {K} {B} names logs = (i : ℕ) (l : LogKeeper K B) → IsAt logs i l → name_of_log l ≡ names i
