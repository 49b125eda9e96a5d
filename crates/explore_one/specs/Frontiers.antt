-- The frontier of an exploration: what is known of the keys whose slots aren't filled yet.
use Rattle.std.specs.Prelude.{◌≡◌, ℕ, ◌+◌, ℤ, List, length}
use Rattle.terrain.specs.Places.{IsAt}

-- the walls of the keys from a place on, in their order
pub record AreWallsFrom {W : Type 0} (Found : List ℤ → W → Type 0) (keys : List (List ℤ)) (place : ℕ) (walls : List W) : Type 0 where
  pub count : place + length walls ≡ length keys
  pub each : (i : ℕ) (k : List ℤ) (w : W) → IsAt keys (place + i) k → IsAt walls i w → Found k w
