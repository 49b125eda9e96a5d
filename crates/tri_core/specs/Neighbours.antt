-- For private contracts alone: the triangles as a graph.
use Rattle.std.specs.Prelude.{ℕ, ◌+◌, ◌*◌, ◌<◌, List, [], ◌∷◌, length}
use Rattle.tri_core.specs.declared.half.Half.{Half}
use Rattle.tri_core.specs.HalfEdges.{twin_at, triangle_of}

-- each twin is the number of a half-edge
abbrev pub HasTwins : List Half → Type 0
HasTwins halves = (h : ℕ) → h < length halves → twin_at halves h < length halves

-- the triangles across the three sides of triangle t
abbrev pub neighbours_of : List Half → ℕ → List ℕ
neighbours_of halves t =
    triangle_of (twin_at halves (3 * t)) ∷ triangle_of (twin_at halves (3 * t + 1)) ∷ triangle_of (twin_at halves (3 * t + 2)) ∷ []
