-- The graph of what is reached.
use Rattle.std.specs.Prelude.{◌≡◌, ℕ, ◌<◌, ℤ, List, length}
use Rattle.std.specs.declared.cmp.Ordering.{Ordering}
use Rattle.std.specs.declared.cmp.Ordering.TheVariants.{Less}
use Rattle.terrain.specs.declared.graph.Lead.{Lead}
use Rattle.terrain.specs.Places.{IsAt}
use Rattle.terrain.specs.Reach.{AreReached}

-- each key is less than the keys behind it
abbrev pub IsAscending : (order : List ℤ → List ℤ → Ordering) → List (List ℤ) → Type 0
IsAscending order keys = (i j : ℕ) (x y : List ℤ) → i < j → IsAt keys i x → IsAt keys j y → order x y ≡ Less

-- exactly the reached keys, ascending; for each key a row of leads, one a wall, each with the place of the key to which the wall leads, and the link; and the place of the root
pub record IsGraph {L : Type 0} (order : List ℤ → List ℤ → Ordering) (Walls : List ℤ → ℕ → Type 0) (Leads : List ℤ → ℕ → List ℤ → L → Type 0) (root : List ℤ) (keys : List (List ℤ)) (rows : List (List (Lead L))) (place : ℕ) : Type 0 where
  pub reached : AreReached Walls Leads root keys
  pub ascending : IsAscending order keys
  pub row_each : length rows ≡ length keys
  pub lead_each : (i : ℕ) (k : List ℤ) (row : List (Lead L)) → IsAt keys i k → IsAt rows i row → Walls k (length row)
  pub leads : (i w : ℕ) (k : List ℤ) (row : List (Lead L)) (l : Lead L) → IsAt keys i k → IsAt rows i row → IsAt row w l → (d : List ℤ) × IsAt keys l.to d × Leads k w d l.link
  pub root_at : IsAt keys place root
