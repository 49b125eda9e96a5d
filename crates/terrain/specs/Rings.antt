-- The ring of n keys: wall 0 of k leads to k + 1, and wall 1 to 2·k, modulo n.
use Rattle.std.specs.Prelude.{◌≡◌, ℕ, zero, suc, ◌+◌, ◌*◌, ◌%◌, ◌<◌, ℤ, pos, negsuc, List, [], ◌∷◌, Option, Some, None}
use Rattle.terrain.specs.declared.ring.Ring.{Ring}

-- the numbers of a ring: n, and the stuck key where there is one
abbrev pub ring_numbers : ℕ → Option ℕ → List ℤ
ring_numbers n None = pos n ∷ []
ring_numbers n (Some stuck) = pos n ∷ pos stuck ∷ []

-- the numbers that a ring stands for
abbrev pub numbers_of : Ring → List ℤ
numbers_of ring = ring_numbers ring.keys ring.stuck

-- the first number, or 0 where there is none or it is negative
abbrev pub first_or_zero : List ℤ → ℕ
first_or_zero [] = 0
first_or_zero (pos n ∷ xs) = n
first_or_zero (negsuc n ∷ xs) = 0

-- a key is one number below n
abbrev pub IsRingKey : List ℤ → List ℤ → Type 0
IsRingKey t k = (k ≡ pos (first_or_zero k) ∷ []) × (first_or_zero k < first_or_zero t)

-- a key has two walls
abbrev pub HasTwo : List ℤ → List ℤ → ℕ → Type 0
HasTwo t k n = n ≡ 2

-- the number to which a wall leads, before it is taken modulo n
abbrev pub ring_step : ℕ → ℕ → ℕ
ring_step k zero = k + 1
ring_step k (suc w) = 2 * k

-- a wall leads to that number modulo n, with the wall as the link
abbrev pub RingLeads : List ℤ → List ℤ → ℕ → List ℤ → ℕ → Type 0
RingLeads t k w d g = (d ≡ pos (ring_step (first_or_zero k) w % first_or_zero t) ∷ []) × (g ≡ w)

-- both walls of the ring's second number are stuck
abbrev pub IsStuckKey : List ℤ → List ℤ → Type 0
IsStuckKey t k = t ≡ pos (first_or_zero t) ∷ pos (first_or_zero k) ∷ []

-- the shard of a key
abbrev pub ring_shard : List ℤ → ℕ
ring_shard k = first_or_zero k % 16
