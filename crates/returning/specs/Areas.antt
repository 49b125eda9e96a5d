-- The area of a triangulation.
use Rattle.std.specs.Prelude.{ℕ, zero, suc, pos, List, length}
use Rattle.rings.specs.Ring.{Ops}
use Rattle.rings.specs.Forms.{det}
use Rattle.quad_field.specs.Quads.{quad_ops}
use Rattle.quad_field.specs.declared.quad.Quad.{Quad}
use Rattle.tri_core.specs.declared.half.Half.{Half}
use Rattle.tri_core.specs.HalfEdges.{vector_at, next_of}

-- the sum of the values at the numbers below n
abbrev pub total : {R : Type 0} → Ops R → ℕ → (ℕ → R) → R
total O zero value = O.int (pos 0)
total O (suc n) value = O.add (total O n value) (value n)

-- the determinant of half-edge k and the next
abbrev pub corner : ℕ → List Half → ℕ → Quad
corner d halves k = det (quad_ops d) (vector_at halves k) (vector_at halves (next_of k))

-- six times the area: the sum of these over all half-edges, which a triangle has three times
abbrev pub six_areas : ℕ → List Half → Quad
six_areas d halves = total (quad_ops d) (length halves) (corner d halves)
