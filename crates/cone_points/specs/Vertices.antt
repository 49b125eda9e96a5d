-- The vertices of a triangulation, and how often each is turned round.
use Rattle.std.specs.Prelude.{◌≡◌, ◌↔◌, ℕ, zero, suc, pos, ◌<◌, ◌≤◌, List, length, get_or, Contains}
use Rattle.quad_field.specs.Quads.{quad_ops, IsPositive}
use Rattle.quad_field.specs.declared.quad.Quad.{Quad}
use Rattle.plane.specs.Halves.{IsUpper}
use Rattle.plane.specs.Vectors.{Vector, det}
use Rattle.tri_core.specs.declared.half.Half.{Half}
use Rattle.tri_core.specs.HalfEdges.{vector_at, twin_at, previous_of}

-- the next half-edge counterclockwise about the starting point of h: the twin of the one before it
abbrev pub turned : List Half → ℕ → ℕ
turned halves h = twin_at halves (previous_of h)

-- h turned n times
abbrev pub turned_often : List Half → ℕ → ℕ → ℕ
turned_often halves zero h = h
turned_often halves (suc n) h = turned halves (turned_often halves n h)

-- k starts where h starts: h comes to it by turning
abbrev pub StartsWith : List Half → ℕ → ℕ → Type 0
StartsWith halves h k = (n : ℕ) × (turned_often halves n h ≡ k)

-- a vertex has the name of the least half-edge that starts there
abbrev pub IsVertex : List Half → ℕ → Type 0
IsVertex halves v = (v < length halves) × ((k : ℕ) → StartsWith halves v k → v ≤ k)

-- from half-edge h to the next about its starting point the half changes from lower to upper: so the direction (1, 0) is passed
abbrev pub Rises : ℕ → List Half → ℕ → Type 0
Rises d halves h = ¬ (IsUpper d (vector_at halves h)) × IsUpper d (vector_at halves (turned halves h))

-- from half-edge h to the next about its starting point the direction w is passed: w lies to the left of h, and no longer to the left of the next
abbrev pub Passes : ℕ → List Half → Vector Quad → ℕ → Type 0
Passes d halves w h =
    IsPositive d (det (quad_ops d) (vector_at halves h) w) × ¬ (IsPositive d (det (quad_ops d) (vector_at halves (turned halves h)) w))

-- the direction (1, 0)
abbrev pub first_axis : ℕ → Vector Quad
first_axis d = ((quad_ops d).int (pos 1), (quad_ops d).int (pos 0))

-- a list without repetition
abbrev pub IsDistinct : List ℕ → Type 0
IsDistinct list = (i j : ℕ) → i < j → j < length list → ¬ (get_or list i 0 ≡ get_or list j 0)

-- the list holds exactly the numbers for which P holds, each once
abbrev pub IsListOf : (ℕ → Type 0) → List ℕ → Type 0
IsListOf P list = IsDistinct list × ((k : ℕ) → Contains list k ↔ P k)

-- there are n numbers for which P holds
abbrev pub IsNumberOf : (ℕ → Type 0) → ℕ → Type 0
IsNumberOf P n = (list : List ℕ) × IsListOf P list × (length list ≡ n)

-- the angle at vertex v is n full turns: n of its half-edges rise
abbrev pub IsTurns : ℕ → List Half → ℕ → ℕ → Type 0
IsTurns d halves v n = IsNumberOf (λ h. StartsWith halves v h × Rises d halves h) n
