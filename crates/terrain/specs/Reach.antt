-- What is reached from a root. Keys are lists of whole numbers; Walls says how many walls a key has, and Leads where a wall leads.
use Rattle.std.specs.Prelude.{◌≡◌, ℕ, ◌<◌, ℤ, List, ◌↔◌, Contains}
use Rattle.terrain.specs.Places.{IsAt}

-- one of the walls of key k leads to key d
pub record LeadsTo {L : Type 0} (Walls : List ℤ → ℕ → Type 0) (Leads : List ℤ → ℕ → List ℤ → L → Type 0) (k d : List ℤ) : Type 0 where
  pub walls : ℕ
  pub has : Walls k walls
  pub wall : ℕ
  pub within : wall < walls
  pub link : L
  pub leads : Leads k wall d link

-- a path of finitely many leads from the root
pub data Path {K : Type 0} (Step : K → K → Type 0) (root : K) : K → Type 0 where
  start : Path Step root root
  on : {k d : K} → Path Step root k → Step k d → Path Step root d

-- the least set of keys with the root that is closed under leads: the keys to which there is a path, whichever it is
abbrev pub IsReached : {L : Type 0} (Walls : List ℤ → ℕ → Type 0) (Leads : List ℤ → ℕ → List ℤ → L → Type 0) (root k : List ℤ) → Type 0
IsReached Walls Leads root k = ∥ Path (LeadsTo Walls Leads) root k ∥₁

-- the keys are exactly the reached ones
abbrev pub AreReached : {L : Type 0} (Walls : List ℤ → ℕ → Type 0) (Leads : List ℤ → ℕ → List ℤ → L → Type 0) → List ℤ → List (List ℤ) → Type 0
AreReached Walls Leads root keys = (k : List ℤ) → (Contains keys k) ↔ (IsReached Walls Leads root k)

-- keys that are all reached, each once
pub record AreReachedOnce {L : Type 0} (Walls : List ℤ → ℕ → Type 0) (Leads : List ℤ → ℕ → List ℤ → L → Type 0) (root : List ℤ) (keys : List (List ℤ)) : Type 0 where
  pub once : (i j : ℕ) (k : List ℤ) → IsAt keys i k → IsAt keys j k → i ≡ j
  pub reached : (i : ℕ) (k : List ℤ) → IsAt keys i k → IsReached Walls Leads root k
