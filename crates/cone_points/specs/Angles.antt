-- The cone angles of a triangulation, and its genus.
use Rattle.std.specs.Prelude.{◌≡◌, ℕ, ◌+◌, ◌*◌, ◌<◌, ◌≤◌, List, [], ◌∷◌, length, get_or}
use Rattle.tri_core.specs.declared.half.Half.{Half}
use Rattle.tri_core.specs.Triangulation.{IsTriangle}
use Rattle.tri_core.specs.Flips.{IsEdge}
use Rattle.cone_points.specs.Vertices.{IsVertex, IsTurns, IsListOf, IsNumberOf}

-- the numbers ascend: none is greater than a later one
abbrev pub IsAscending : List ℕ → Type 0
IsAscending list = (i j : ℕ) → i < j → j < length list → get_or list i 0 ≤ get_or list j 0

-- the turns of all vertices, ascending
pub record AreTurns (d : ℕ) (halves : List Half) (turns : List ℕ) : Type 0 where
  pub vertices : List ℕ
  pub listed : IsListOf (IsVertex halves) vertices
  pub as_many : length turns ≡ length vertices
  pub each : (i : ℕ) → i < length turns → IsTurns d halves (get_or vertices i 0) (get_or turns i 0)
  pub ascending : IsAscending turns

-- the genus g of a surface of V vertices, E edges and F triangles, by Euler's formula: V - E + F = 2 - 2g
pub record IsGenus (halves : List Half) (genus : ℕ) : Type 0 where
  pub V : ℕ
  pub E : ℕ
  pub F : ℕ
  pub vertices : IsNumberOf (IsVertex halves) V
  pub edges : IsNumberOf (IsEdge halves) E
  pub triangles : IsNumberOf (IsTriangle halves) F
  pub euler : V + F + 2 * genus ≡ E + 2

-- the sum of a list
abbrev pub sum_of : List ℕ → ℕ
sum_of [] = 0
sum_of (n ∷ list) = n + sum_of list
