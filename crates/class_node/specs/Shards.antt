-- The shards of codes.
use Rattle.std.specs.Prelude.{ℕ, zero, suc, ◌+◌, ◌*◌, ◌/◌, ℤ, pos, ◌+ℤ◌, List, length, unsigned_abs}
use Rattle.std.specs.Int.{int_rem_euclid}
use Rattle.canon_code.specs.Canonical.{number_at}

-- the sum of a code's first number and its numbers at n places from 10 on by elevens
abbrev pub shard_sum : List ℤ → ℕ → ℤ
shard_sum code zero = number_at code 0
shard_sum code (suc n) = shard_sum code n +ℤ number_at code (10 + 11 * n)

-- the shard of a code: the sum of its numbers at the places 0, 10, 21, 32 and so on by elevens, modulo 16 with the remainder from 0
abbrev pub shard_number : List ℤ → ℕ
shard_number code = unsigned_abs (int_rem_euclid (shard_sum code (length code / 11)) (pos 16))
