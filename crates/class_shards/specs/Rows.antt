-- Rows of a shard and the entries of their slots.
use Rattle.std.specs.Prelude.{ℕ, zero, suc, ◌+◌, List, [], ◌∷◌, length}
use Rattle.explore_core.specs.Books.{Row}

-- how many slots stand before row i
abbrev pub before : {L : Type 0} → List (Row L) → ℕ → ℕ
before [] i = 0
before (r ∷ rows) zero = 0
before (r ∷ rows) (suc i) = length r.slots + before rows i

-- how many slots there are
abbrev pub total : {L : Type 0} → List (Row L) → ℕ
total [] = 0
total (r ∷ rows) = length r.slots + total rows
