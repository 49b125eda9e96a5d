-- Which numbers stand under the root.
use Rattle.std.specs.Prelude.{◌≡◌, ℕ, ◌≤◌}
use Prim.Native.Nat.{◌∣◌, ◌*◌}

-- square-free: 1 is the only number whose square divides d
abbrev pub IsSquareFree : ℕ → Type 0
IsSquareFree d = (k : ℕ) → (k * k) ∣ d → k ≡ 1

-- the numbers of the fields: square-free, from 2 to 1000
abbrev pub IsFieldNumber : ℕ → Type 0
IsFieldNumber d = (2 ≤ d) × (d ≤ 1000) × IsSquareFree d
