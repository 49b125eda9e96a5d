-- The nodes of a graph that can be reached from node 0. The nodes are the numbers below n; `neighbours` has the list of each one's neighbours.
use Rattle.std.specs.Prelude.{ℕ, ◌<◌, Bool, IsTrue, List, All, Option, Some, None}

-- the neighbours of each node are nodes
abbrev pub IsGraph : ℕ → (ℕ → List ℕ) → Type 0
IsGraph n neighbours = (node : ℕ) → node < n → All (λ other. other < n) (neighbours node)

-- a set that holds with each of its nodes all the node's neighbours
abbrev pub IsClosedUnder : ℕ → (ℕ → List ℕ) → (ℕ → Bool) → Type 0
IsClosedUnder n neighbours set = (node : ℕ) → node < n → IsTrue (set node) → All (λ other. IsTrue (set other)) (neighbours node)

-- node t can be reached from node 0: it is in the least set that holds node 0 and is closed under neighbours
abbrev pub IsReachable : ℕ → (ℕ → List ℕ) → ℕ → Type 0
IsReachable n neighbours t = (set : ℕ → Bool) → IsTrue (set 0) → IsClosedUnder n neighbours set → IsTrue (set t)

-- t is the first node that can't be reached from node 0
pub record IsFirstUnreachable (n : ℕ) (neighbours : ℕ → List ℕ) (t : ℕ) : Type 0 where
  pub node : t < n
  pub fails : ¬ (IsReachable n neighbours t)
  pub before : (k : ℕ) → k < t → IsReachable n neighbours k

-- the first node that can't be reached from node 0, or none where each can
abbrev pub IsFirstApart : ℕ → (ℕ → List ℕ) → Option ℕ → Type 0
IsFirstApart n neighbours None = (t : ℕ) → t < n → IsReachable n neighbours t
IsFirstApart n neighbours (Some t) = IsFirstUnreachable n neighbours t
