-- For callers: what is known of the nodes that can be reached.
use Rattle.std.proofs.Common.{ℕ, ◌<◌, Bool, not, IsTrue, List, All, length, get_or, inl, inr, ap}
use Rattle.std.proofs.lemmas.List.Elements.{All-get_or, All-from_get_or}
use Rattle.std.proofs.lemmas.Bool.{cases_Bool, both_ways}
use Rattle.graph_search.specs.Reachable.{IsReachable, IsClosedUnder}

-- node 0 can be reached
pub IsReachable-start : (n : ℕ) (neighbours : ℕ → List ℕ) → IsReachable n neighbours 0
IsReachable-start n neighbours = λ set start closed. start

-- the neighbour at a place of a node that can be reached can be reached
pub IsReachable-neighbour : (n : ℕ) (neighbours : ℕ → List ℕ) (node place : ℕ) → node < n → place < length (neighbours node)
    → IsReachable n neighbours node → IsReachable n neighbours (get_or (neighbours node) place 0)
IsReachable-neighbour n neighbours node place inside there reached =
    λ set start closed. All-get_or (λ other. IsTrue (set other)) (neighbours node) place 0 there (closed node inside (reached set start closed))

-- the neighbours of a node that can be reached can be reached
pub IsReachable-closed : (n : ℕ) (neighbours : ℕ → List ℕ) (node : ℕ) → node < n → IsReachable n neighbours node
    → All (IsReachable n neighbours) (neighbours node)
IsReachable-closed n neighbours node inside reached =
    All-from_get_or (IsReachable n neighbours) (neighbours node) 0 (λ place there. IsReachable-neighbour n neighbours node place inside there reached)

-- a node that can be reached is in every set that holds node 0 and is closed under neighbours
pub IsReachable-least : (n : ℕ) (neighbours : ℕ → List ℕ) (set : ℕ → Bool) → IsTrue (set 0) → IsClosedUnder n neighbours set
    → (node : ℕ) → IsReachable n neighbours node → IsTrue (set node)
IsReachable-least n neighbours set start closed node reached = reached set start closed

-- what can be reached in one graph can be reached in another, where each set that is closed there is closed here
pub IsReachable-wider : (n m : ℕ) (some others : ℕ → List ℕ) → ((set : ℕ → Bool) → IsClosedUnder m others set → IsClosedUnder n some set)
    → (node : ℕ) → IsReachable n some node → IsReachable m others node
IsReachable-wider n m some others wider node reached = λ set start closed. reached set start (wider set closed)

-- the nodes that aren't in a set
abbrev pub complement : (ℕ → Bool) → ℕ → Bool
complement set = λ node. not (set node)

-- a set that is closed with its complement, and holds some node that can be reached, holds each of them
pub reachable_from : (n : ℕ) (neighbours : ℕ → List ℕ) (set : ℕ → Bool) → IsClosedUnder n neighbours set → IsClosedUnder n neighbours (complement set)
    → (one : ℕ) → IsReachable n neighbours one → IsTrue (set one) → (node : ℕ) → IsReachable n neighbours node → IsTrue (set node)
reachable_from n neighbours set closed outside one reached holds node other =
    elim (cases_Bool (set 0)) [
      | inl start ↦ other set start closed
      | inr missing ↦ absurd (both_ways (complement set one) (ap not holds) (reached (complement set) (ap not missing) outside))
    ]
