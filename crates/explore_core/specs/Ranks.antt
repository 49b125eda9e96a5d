-- Places by ascending keys.
use Rattle.std.specs.Prelude.{◌≡◌, ℕ, ◌<◌, List, Option, Some, length, slice_index}
use Rattle.terrain.specs.declared.graph.Lead.{Lead}
use Rattle.terrain.specs.Places.{IsAt}
use Rattle.explore_core.specs.declared.record.Filled.{Filled}

-- places below n, each once
pub record ArePlaces (n : ℕ) (places : List ℕ) : Type 0 where
  pub within : (i a : ℕ) → IsAt places i a → a < n
  pub once : (i j a : ℕ) → IsAt places i a → IsAt places j a → i ≡ j

-- each slot is filled, with a place below n
abbrev pub AllFull : {K L : Type 0} → ℕ → List (Option (Filled K L)) → Type 0
AllFull {K} {L} n slots = (w : ℕ) → w < length slots → (f : Filled K L) × IsAt slots w (Some f) × (f.place < n)

-- the lead of a filled slot, with the rank of its place
abbrev pub ranked : {K L : Type 0} → List ℕ → Filled K L → Lead L
ranked ranks f = record { to = slice_index ranks f.place; link = f.link }

-- the leads of the slots, each with the rank of its place
pub record AreRanked {K L : Type 0} (ranks : List ℕ) (slots : List (Option (Filled K L))) (leads : List (Lead L)) : Type 0 where
  pub long : length leads ≡ length slots
  pub each : (w : ℕ) (f : Filled K L) → IsAt slots w (Some f) → IsAt leads w (ranked ranks f)
