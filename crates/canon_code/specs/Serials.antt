-- The serial of a triangulation at a start, and its code.
use Rattle.std.specs.Prelude.{◌≡◌, ℕ, ℤ, zero, suc, pos, ◌+◌, ◌*◌, ◌/◌, ◌<◌, ◌≤◌, List, [], ◌∷◌, ◌++◌, length}
use Rattle.rings.specs.Ring.{Ops}
use Rattle.quad_field.specs.Quads.{quad_ops}
use Rattle.quad_field.specs.declared.quad.Quad.{Quad}
use Rattle.plane.specs.Vectors.{Vector, det}
use Rattle.tri_core.specs.declared.half.Half.{Half}
use Rattle.tri_core.specs.HalfEdges.{vector_at, twin_at, next_of}
use Rattle.canon_code.specs.Numberings.{IsNumbering}

-- w is m times the vector v in the frame (e, g): det(e, g)·w = m·(det(v, g), det(e, v))
abbrev pub IsWritten : {R : Type 0} → Ops R → R → Vector R → Vector R → Vector R → Vector R → Type 0
IsWritten O m e g v w = (O.mul (det O e g) w.0 ≡ O.mul m (det O v g)) × (O.mul (det O e g) w.1 ≡ O.mul m (det O e v))

-- w is m times the vector of half-edge k in the frame of h
abbrev pub IsWrittenAt : ℕ → List Half → ℕ → ℕ → ℕ → Vector Quad → Type 0
IsWrittenAt d halves h m k w = IsWritten (quad_ops d) ((quad_ops d).int (pos m)) (vector_at halves h) (vector_at halves (next_of h)) (vector_at halves k) w

-- m times each vector in the frame of h has whole components
abbrev pub IsScale : ℕ → List Half → ℕ → ℕ → Type 0
IsScale d halves h m = (0 < m) × ((k : ℕ) → k < length halves → (w : Vector Quad) × IsWrittenAt d halves h m k w)

-- and m is the least such number
abbrev pub IsLeastScale : ℕ → List Half → ℕ → ℕ → Type 0
IsLeastScale d halves h m = IsScale d halves h m × ((n : ℕ) → IsScale d halves h n → m ≤ n)

-- the four whole numbers of a vector
abbrev pub parts : Vector Quad → List ℤ
parts v = v.0.a ∷ v.0.b ∷ v.1.a ∷ v.1.b ∷ []

-- the numbers of triangle t: its first two vectors, and the twins of its three half-edges
abbrev pub row : (ℕ → Vector Quad) → (ℕ → ℕ) → ℕ → List ℤ
row written twin t = parts (written (3 * t)) ++ (parts (written (3 * t + 1)) ++ (pos (twin (3 * t)) ∷ pos (twin (3 * t + 1)) ∷ pos (twin (3 * t + 2)) ∷ []))

-- the numbers of the first triangles
abbrev pub rows : (ℕ → Vector Quad) → (ℕ → ℕ) → ℕ → List ℤ
rows written twin zero = []
rows written twin (suc t) = rows written twin t ++ row written twin t

-- the list is the serial at start h: the number of triangles, the scale, and the numbers of each triangle
pub record IsSerial (d : ℕ) (halves : List Half) (h : ℕ) (serial : List ℤ) : Type 0 where
  pub place : ℕ → ℕ
  pub number : ℕ → ℕ
  pub scale : ℕ
  pub written : ℕ → Vector Quad
  pub numbering : IsNumbering halves h place number
  pub least : IsLeastScale d halves h scale
  pub vectors : (k : ℕ) → k < length halves → IsWrittenAt d halves h scale (place k) (written k)
  pub numbers : serial ≡ pos (length halves / 3) ∷ pos scale ∷ rows written (λ k. number (twin_at halves (place k))) (length halves / 3)
