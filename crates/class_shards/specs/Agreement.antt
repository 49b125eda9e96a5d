-- A shard's rows, and its keeper's entries.
use Rattle.std.specs.Prelude.{◌≡◌, ℕ, ◌+◌, ◌<◌, ℤ, List, Option, Some, length, is_some, true}
use Rattle.terrain.specs.Places.{IsAt}
use Rattle.terrain.specs.Reach.{IsReached}
use Rattle.walls_out.specs.declared.view.View.{View}
use Rattle.walls_out.specs.Counting.{has_done}
use Rattle.explore_core.specs.Books.{Row, Slot}
use Rattle.class_shards.specs.Rows.{before, total}

-- a slot is filled exactly where its entry is done, and no entry is done that has no slot
pub record Agree {L : Type 0} (number : ℕ) (v : View) (rows : List (Row L)) : Type 0 where
  pub filled : (i w : ℕ) (r : Row L) (o : Option (Slot L)) → IsAt rows i r → IsAt r.slots w o → 0 < has_done number (before rows i + w) v → is_some o ≡ true
  pub done : (i w : ℕ) (r : Row L) (o : Option (Slot L)) → IsAt rows i r → IsAt r.slots w o → is_some o ≡ true → 0 < has_done number (before rows i + w) v
  pub below : (index : ℕ) → 0 < has_done number index v → index < total rows

-- the keys are reached keys of the shard with that number, each once, with a slot for each wall; a filled slot holds its wall's lead
pub record IsShard {L : Type 0} (Walls : List ℤ → ℕ → Type 0) (Leads : List ℤ → ℕ → List ℤ → L → Type 0) (shard_of : List ℤ → ℕ) (root : List ℤ) (number : ℕ) (rows : List (Row L)) : Type 0 where
  pub belong : (i : ℕ) (r : Row L) → IsAt rows i r → shard_of r.key ≡ number
  pub apart : (i j : ℕ) (r s : Row L) → IsAt rows i r → IsAt rows j s → r.key ≡ s.key → i ≡ j
  pub reached : (i : ℕ) (r : Row L) → IsAt rows i r → IsReached Walls Leads root r.key
  pub walls : (i : ℕ) (r : Row L) → IsAt rows i r → Walls r.key (length r.slots)
  pub leads : (i w : ℕ) (r : Row L) (s : Slot L) → IsAt rows i r → IsAt r.slots w (Some s) → Leads r.key w s.target s.link

-- each slot of each key is filled
abbrev pub AreFilled : {L : Type 0} → List (Row L) → Type 0
AreFilled {L} rows = (i w : ℕ) (r : Row L) → IsAt rows i r → w < length r.slots → (s : Slot L) × IsAt r.slots w (Some s)
