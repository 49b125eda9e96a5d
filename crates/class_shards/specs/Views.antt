-- What contracts see of a shard and of what is left of it.
use Rattle.std.specs.Prelude.{ℕ, List}
use Rattle.terrain.specs.declared.terrains.Terrain as terrains
use Rattle.terrain.specs.declared.numbers.Numbers as numbers
use Rattle.class_shards.specs.declared.naming.Naming as namings
use Rattle.class_shards.specs.declared.shard.Shard.{Shard}
use Rattle.explore_core.specs.Books as books
use Rattle.class_shards.specs.Keepers.{keeper_number}
use Rattle.class_shards.specs.Stored.{rows_in}

module _ {T N K L F W : Type 0} {G : terrains.Ghosts T K L F W} {A : numbers.Ghosts T} {B : numbers.Ghosts K} {M : namings.Ghosts N} where
  -- its rows, as a book has them, in the order in which their keys were added
  abbrev pub rows_of : Shard T N K L F W G A B M → List (books.Row L)
  rows_of s = rows_in B.numbers s.keys.items s.rows.items

  -- its number, which is its keeper's
  abbrev pub number_of : Shard T N K L F W G A B M → ℕ
  number_of s = keeper_number s.keeper
