-- The walls that a worker found.
use Rattle.std.specs.Prelude.{◌≡◌, ℕ, ℤ, List}
use Rattle.std.specs.Arc.{arc_value}
use Rattle.terrain.specs.Places.{IsAt}
use Rattle.wall_steal.specs.declared.frontier.Found.{Found}

module _ {K W : Type 0} where
  -- each element's walls are walls of its key
  abbrev pub AreFound : (Walls : List ℤ → W → Type 0) (numbers : K → List ℤ) → List (Found K W) → Type 0
  AreFound Walls numbers found = (i : ℕ) (f : Found K W) → IsAt found i f → Walls (numbers (arc_value f.key)) f.walls

  -- walls of the key stand at that place
  abbrev pub IsFoundAt : (numbers : K → List ℤ) → List (Found K W) → ℕ → List ℤ → Type 0
  IsFoundAt numbers found place key = (f : Found K W) × IsAt found place f × (numbers (arc_value f.key) ≡ key)
