-- Keys of a ring.
use Rattle.std.proofs.Common.{◌<◌, ℕ, [], ◌∷◌, Option, Some, None, refl}
use Rattle.std.specs.Prelude.{pos}
use Rattle.terrain.specs.Rings.{ring_numbers, IsRingKey}

-- a number below n is a key of the ring of n keys
pub ring_key : (n k : ℕ) (stuck : Option ℕ) → k < n → IsRingKey (ring_numbers n stuck) (pos k ∷ [])
ring_key n k None below = (refl, below)
ring_key n k (Some s) below = (refl, below)
