-- Rows while slots are filled.
use Rattle.std.specs.Prelude.{◌≡◌, ℕ, ◌<◌, List, Some, length}
use Rattle.terrain.specs.Places.{IsAt}
use Rattle.explore_core.specs.Books.{Slot, Row}

-- each row stays at its place with its number of slots, and what was filled stays so
abbrev pub Keeps : {L : Type 0} → List (Row L) → List (Row L) → Type 0
Keeps {L} before after = (i : ℕ) (r : Row L) → IsAt before i r → (q : Row L) × IsAt after i q × (length q.slots ≡ length r.slots) × ((w : ℕ) (s : Slot L) → IsAt r.slots w (Some s) → IsAt q.slots w (Some s))

-- each slot of the row at place i is filled
abbrev pub IsFullAt : {L : Type 0} → List (Row L) → ℕ → Type 0
IsFullAt {L} rows i = (r : Row L) → IsAt rows i r → (w : ℕ) → w < length r.slots → (s : Slot L) × IsAt r.slots w (Some s)
