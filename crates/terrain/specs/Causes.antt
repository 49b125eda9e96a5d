-- Why an exploration ends early.
use Rattle.std.specs.Prelude.{ℕ, ◌<◌, ℤ, List, length, ◌⊎◌}
use Rattle.terrain.specs.Reach.{IsReached, AreReachedOnce}

-- more than so many keys are reached
abbrev pub MoreAreReached : {L : Type 0} (Walls : List ℤ → ℕ → Type 0) (Leads : List ℤ → ℕ → List ℤ → L → Type 0) (root : List ℤ) → ℕ → Type 0
MoreAreReached Walls Leads root limit = (keys : List (List ℤ)) × (limit < length keys) × AreReachedOnce Walls Leads root keys

-- the key is reached, and it or one of its walls, whichever it is, is stuck by the fault
abbrev pub IsStuckWithin : {L F : Type 0} (Walls : List ℤ → ℕ → Type 0) (Leads : List ℤ → ℕ → List ℤ → L → Type 0) (Stuck : List ℤ → F → Type 0) (StuckAt : List ℤ → ℕ → F → Type 0) (root k : List ℤ) → F → Type 0
IsStuckWithin Walls Leads Stuck StuckAt root k fault = IsReached Walls Leads root k × ∥ Stuck k fault ⊎ ((n w : ℕ) × Walls k n × (w < n) × StuckAt k w fault) ∥₁
