-- For private contracts alone: walks about vertices, which half-edges are upper, which are marked, and how many of those rise.
use Rattle.std.specs.Prelude.{◌≡◌, ◌↔◌, ℕ, zero, suc, ◌+◌, ◌<◌, ◌≤◌, Bool, false, not, ◌&&◌, cond, IsTrue, List, length, get_or}
use Rattle.tri_core.specs.declared.half.Half.{Half}
use Rattle.tri_core.specs.HalfEdges.{vector_at}
use Rattle.cone_points.specs.Vertices.{turned, StartsWith, IsVertex, IsTurns, IsListOf}
use Rattle.plane.specs.Halves.{IsUpper}
use Rattle.cone_points.specs.Angles.{sum_of}

-- the list tells of each half-edge whether its vector is in the upper half
pub record TellsUpper (d : ℕ) (halves : List Half) (uppers : List Bool) : Type 0 where
  pub as_many : length uppers ≡ length halves
  pub tells : (k : ℕ) → k < length halves → IsTrue (get_or uppers k false) ↔ IsUpper d (vector_at halves k)

-- half-edge k rises, by the list that tells of the upper ones
abbrev pub rises_by : List Half → List Bool → ℕ → Bool
rises_by halves uppers k = not (get_or uppers k false) && get_or uppers (turned halves k) false

-- how many numbers below n are in the set
abbrev pub number_below : (ℕ → Bool) → ℕ → ℕ
number_below set zero = 0
number_below set (suc n) = number_below set n + cond (set n) 1 0

-- half-edge k is marked
abbrev pub IsMarked : List Bool → ℕ → Type 0
IsMarked marks k = IsTrue (get_or marks k false)

-- how many marked half-edges rise
abbrev pub risen : List Half → List Bool → List Bool → ℕ
risen halves uppers marks = number_below (λ k. get_or marks k false && rises_by halves uppers k) (length halves)

-- with each half-edge the next about its starting point is marked
abbrev pub IsTurnedOn : List Half → List Bool → Type 0
IsTurnedOn halves marks = (k : ℕ) → IsMarked marks k → IsMarked marks (turned halves k)

-- the turns of the vertices below a bound
pub record AreTurnsBelow (d : ℕ) (halves : List Half) (bound : ℕ) (turns : List ℕ) : Type 0 where
  pub vertices : List ℕ
  pub listed : IsListOf (λ v. (v < bound) × IsVertex halves v) vertices
  pub as_many : length turns ≡ length vertices
  pub each : (i : ℕ) → i < length turns → IsTurns d halves (get_or vertices i 0) (get_or turns i 0)

-- a state of the walks: the vertices below the bound have been gone round
pub record IsRound (d : ℕ) (halves : List Half) (uppers : List Bool) (bound : ℕ) (marks : List Bool) (turns : List ℕ) : Type 0 where
  pub as_many : length marks ≡ length halves
  pub passed : (k : ℕ) → k < bound → IsMarked marks k
  pub turned_on : IsTurnedOn halves marks
  pub from : (k : ℕ) → IsMarked marks k → (v : ℕ) × (v < bound) × StartsWith halves v k
  pub turns_are : AreTurnsBelow d halves bound turns
  pub sum : sum_of turns ≡ risen halves uppers marks
  pub positive : length turns ≤ sum_of turns
