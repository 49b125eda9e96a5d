-- What a shard stores, and the rows of a book that it shows.
use Rattle.std.specs.Prelude.{ℤ, List, [], ◌∷◌, Option, map, option_map}
use Rattle.std.specs.Arc.{arc_value}
use Rattle.std.specs.declared.sync.Arc.{Arc}
use Rattle.std.specs.declared.alloc.Global.{Global}
use Rattle.terrain.specs.declared.terrains.Terrain as terrains
use Rattle.terrain.specs.declared.numbers.Numbers as numbers
use Rattle.class_shards.specs.declared.naming.Naming as namings
use Rattle.explore_core.specs.Books as books
use Rattle.class_shards.specs.declared.row.Slot.{Slot}
use Rattle.class_shards.specs.declared.row.Row.{Row}
use Rattle.class_shards.specs.Targets.{target_of}

-- keys with their slots, as the rows of a book: each key is the number list of its holder
abbrev pub rows_from : {X R L : Type 0} → (X → List ℤ) → (R → List (Option (books.Slot L))) → List X → List R → List (books.Row L)
rows_from number slots [] rows = []
rows_from number slots (k ∷ keys) [] = []
rows_from number slots (k ∷ keys) (r ∷ rows) = record { key = number k; slots = slots r } ∷ rows_from number slots keys rows

module _ {T N K L F W : Type 0} {G : terrains.Ghosts T K L F W} {A : numbers.Ghosts T} {B : numbers.Ghosts K} {M : namings.Ghosts N} where
  -- a filled slot, as a book has it
  abbrev pub slot_of : Slot T N K L F W G A B M → books.Slot L
  slot_of s = record { target = target_of s.target; link = s.link }

  -- the slots of a key, as a book has them
  abbrev pub slots_of : Row T N K L F W G A B M → List (Option (books.Slot L))
  slots_of r = map (option_map slot_of) r.slots.items

  -- the rows of shared keys
  abbrev pub rows_in : (K → List ℤ) → List (Arc K Global) → List (Row T N K L F W G A B M) → List (books.Row L)
  rows_in numbers keys rows = rows_from (λ (a : Arc K Global). numbers (arc_value a)) slots_of keys rows
