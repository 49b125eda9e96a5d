-- Serves private clauses alone: sets of numbers as words of 64 bits.
use Rattle.std.specs.Prelude.{◌≡◌, ℕ, ◌/◌, ◌%◌, List, slice_index}
use Rattle.std.specs.Int.{bit_at}

-- k is in the set: bit k % 64 of word k / 64 is 1
abbrev pub Holds : List ℕ → ℕ → Type 0
Holds words k = bit_at (slice_index words (k / 64)) (k % 64) ≡ 1
