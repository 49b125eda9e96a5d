-- What contracts see of a book.
use Rattle.std.specs.Prelude.{ℕ, ℤ, List}
use Rattle.terrain.specs.declared.terrains.Terrain as terrains
use Rattle.terrain.specs.declared.numbers.Numbers as numbers
use Rattle.explore_core.specs.declared.book.Book.{Book}
use Rattle.explore_core.specs.Books.{Row}
use Rattle.explore_core.specs.Records.{rows_from}

-- its rows, in the order in which their keys were added
abbrev pub rows_of : {T K L F W : Type 0} {G : terrains.Ghosts T K L F W} {N : numbers.Ghosts T} {M : numbers.Ghosts K} → Book T K L F W G N M → List (Row L)
rows_of {M = M} b = rows_from M.numbers b.records.items

-- the list that its terrain stands for
abbrev pub terrain_of : {T K L F W : Type 0} {G : terrains.Ghosts T K L F W} {N : numbers.Ghosts T} {M : numbers.Ghosts K} → Book T K L F W G N M → List ℤ
terrain_of {N = N} b = N.numbers b.terrain.value

-- the list that its root stands for
abbrev pub root_of : {T K L F W : Type 0} {G : terrains.Ghosts T K L F W} {N : numbers.Ghosts T} {M : numbers.Ghosts K} → Book T K L F W G N M → List ℤ
root_of {M = M} b = M.numbers b.root.value

-- how many walls a key of its terrain has
abbrev pub walls_in : {T K L F W : Type 0} {G : terrains.Ghosts T K L F W} {N : numbers.Ghosts T} {M : numbers.Ghosts K} → Book T K L F W G N M → List ℤ → ℕ → Type 0
walls_in {G = G} b = G.has_walls (terrain_of b)

-- where the walls of its terrain lead
abbrev pub leads_in : {T K L F W : Type 0} {G : terrains.Ghosts T K L F W} {N : numbers.Ghosts T} {M : numbers.Ghosts K} → Book T K L F W G N M → List ℤ → ℕ → List ℤ → L → Type 0
leads_in {G = G} b = G.leads (terrain_of b)

-- where its terrain is stuck at a key
abbrev pub stuck_in : {T K L F W : Type 0} {G : terrains.Ghosts T K L F W} {N : numbers.Ghosts T} {M : numbers.Ghosts K} → Book T K L F W G N M → List ℤ → F → Type 0
stuck_in {G = G} b = G.is_stuck (terrain_of b)

-- where its terrain is stuck at a wall of a key
abbrev pub stuck_at_in : {T K L F W : Type 0} {G : terrains.Ghosts T K L F W} {N : numbers.Ghosts T} {M : numbers.Ghosts K} → Book T K L F W G N M → List ℤ → ℕ → F → Type 0
stuck_at_in {G = G} b = G.is_stuck_at (terrain_of b)

-- which walls are those of a key of its terrain
abbrev pub found_in : {T K L F W : Type 0} {G : terrains.Ghosts T K L F W} {N : numbers.Ghosts T} {M : numbers.Ghosts K} → Book T K L F W G N M → List ℤ → W → Type 0
found_in {G = G} b = G.are_walls (terrain_of b)
