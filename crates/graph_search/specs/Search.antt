-- For private contracts alone: a search as a mark for each node, and the nodes in the order of their discovery.
use Rattle.std.specs.Prelude.{◌≡◌, ℕ, ◌+◌, ◌<◌, ◌≤◌, Bool, false, not, IsTrue, List, length, slice_index, slice_index_or, count_by, Option, Some, None, Vec, vec_len, vec_capacity}
use Rattle.graph_search.specs.Reachable.{IsReachable}

-- node t is marked
abbrev pub IsMarked : List Bool → ℕ → Type 0
IsMarked marks t = IsTrue (slice_index_or marks t false)

-- the first place that isn't marked, or none where each is
abbrev pub IsFirstUnmarked : List Bool → Option ℕ → Type 0
IsFirstUnmarked marks None = (t : ℕ) → t < length marks → IsMarked marks t
IsFirstUnmarked marks (Some n) = (n < length marks) × ¬ (IsMarked marks n) × ((t : ℕ) → t < n → IsMarked marks t)

-- there is room for every node that isn't marked
abbrev pub HasRoom : {Z : Type 0} → List Bool → Vec ℕ Z → Type 0
HasRoom marks found = vec_len found + count_by not marks ≤ vec_capacity found

-- a state of the search: the nodes found are those that are marked, and all of them can be reached
pub record IsSearch (n : ℕ) (neighbours : ℕ → List ℕ) (marks : List Bool) (found : List ℕ) : Type 0 where
  pub as_many : length marks ≡ n
  pub all_marked : (k : ℕ) → k < length found → IsMarked marks (slice_index found k)
  pub all_found : (t : ℕ) → IsMarked marks t → (k : ℕ) × (k < length found) × (slice_index found k ≡ t)
  pub all_reached : (t : ℕ) → IsMarked marks t → IsReachable n neighbours t

-- a later state: what was marked is marked, and what was found stands where it stood
pub record IsLater (marks : List Bool) (found : List ℕ) (later_marks : List Bool) (later_found : List ℕ) : Type 0 where
  pub marked : (t : ℕ) → IsMarked marks t → IsMarked later_marks t
  pub longer : length found ≤ length later_found
  pub same : (k : ℕ) → k < length found → slice_index later_found k ≡ slice_index found k
