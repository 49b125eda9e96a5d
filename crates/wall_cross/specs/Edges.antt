-- The edge of a half-edge, and lines that a matrix carries to each other.
use Rattle.std.specs.Prelude.{◌≡◌, ◌⊎◌, ℕ, List}
use Rattle.rings.specs.Matrices.{Matrix}
use Rattle.quad_field.specs.declared.quad.Quad.{Quad}
use Rattle.quad_field.specs.Quads.{quad_ops}
use Rattle.tri_core.specs.declared.half.Half.{Half}
use Rattle.tri_core.specs.HalfEdges.{twin_at}
use Rattle.tri_core.specs.Flips.{IsEdge}
use Rattle.hinge_form.specs.Triples.{Triple}
use Rattle.hinge_form.specs.Lines.{IsMultiple}
use Rattle.wall_cross.specs.Pulled.{pushed}

-- e is the edge of half-edge h: h itself, or its twin
abbrev pub IsEdgeName : List Half → ℕ → ℕ → Type 0
IsEdgeName halves h e = ((e ≡ h) ⊎ (e ≡ twin_at halves h)) × IsEdge halves e

-- n carries the line of l to that of m: m is a positive multiple of the pushed l
abbrev pub AreMatching : ℕ → Matrix Quad → Triple → Triple → Type 0
AreMatching d n l m = IsMultiple d (pushed (quad_ops d) n l) m
