-- The records of shards, one shard after the other.
use Rattle.std.specs.Prelude.{◌≡◌, ℕ, ◌+◌, ◌<◌, ℤ, List, Some, length}
use Rattle.terrain.specs.Places.{IsAt}
use Rattle.terrain.specs.Reach.{IsReached}
use Rattle.explore_core.specs.Books.{Slot, Row, keys_of}

-- the rows are those of the first so many shards: reached keys of these shards, each once, with a slot for each wall, and a filled slot holds its wall's lead. For each shard there is its log and the number of its first key: the key at place p of the log is the one with p added to that number
pub record AreGathered {L : Type 0} (Walls : List ℤ → ℕ → Type 0) (Leads : List ℤ → ℕ → List ℤ → L → Type 0) (shard_of : List ℤ → ℕ) (root : List ℤ) (shards : ℕ) (rows : List (Row L)) (logs : List (List (List ℤ))) (starts : List ℕ) : Type 0 where
  pub belong : (i : ℕ) (r : Row L) → IsAt rows i r → shard_of r.key < shards
  pub apart : (i j : ℕ) (r s : Row L) → IsAt rows i r → IsAt rows j s → r.key ≡ s.key → i ≡ j
  pub reached : (i : ℕ) (r : Row L) → IsAt rows i r → IsReached Walls Leads root r.key
  pub walls : (i : ℕ) (r : Row L) → IsAt rows i r → Walls r.key (length r.slots)
  pub leads : (i w : ℕ) (r : Row L) (s : Slot L) → IsAt rows i r → IsAt r.slots w (Some s) → Leads r.key w s.target s.link
  pub many_logs : length logs ≡ shards
  pub many_starts : length starts ≡ shards
  pub numbers : (q start p : ℕ) (keys : List (List ℤ)) (k : List ℤ) → IsAt starts q start → IsAt logs q keys → IsAt keys p k → IsAt (keys_of rows) (start + p) k
