-- Where a key is, or where it would stand; and what an added key has.
use Rattle.std.specs.Prelude.{◌≡◌, ℕ, ℤ, List, [], ◌∷◌, ◌++◌, Option, Some, None}
use Rattle.std.specs.declared.cmp.Ordering.{Ordering}
use Rattle.terrain.specs.Places.{IsAt}
use Rattle.explore_core.specs.declared.spot.Spot.{Spot}
use Rattle.explore_core.specs.declared.spot.Spot.TheVariants.{There, New}
use Rattle.explore_core.specs.Books.{Row, HasKey, keys_of}
use Rattle.explore_core.specs.Index.{IsGap}

-- the key is at that place; or it isn't in the book, its place would stand at that index, it has so many walls, and these are they
abbrev pub IsSpot : {L W : Type 0} (order : List ℤ → List ℤ → Ordering) (Walls : List ℤ → ℕ → Type 0) (Found : List ℤ → W → Type 0) → List (Row L) → List ℕ → List ℤ → Spot W → Type 0
IsSpot order Walls Found rows places k (There place) = IsAt (keys_of rows) place k
IsSpot order Walls Found rows places k (New index count walls) = (HasKey rows k → ⊥) × IsGap order (keys_of rows) places k index × Walls k count × Found k walls

-- the walls of the key that was added to the keys, or none where none was added
abbrev pub AreWallsOfAdded : {W : Type 0} (Found : List ℤ → W → Type 0) (before after : List (List ℤ)) → Option W → Type 0
AreWallsOfAdded Found before after None = after ≡ before
AreWallsOfAdded Found before after (Some walls) = (k : List ℤ) × (after ≡ before ++ k ∷ []) × Found k walls
