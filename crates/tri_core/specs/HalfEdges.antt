-- Half-edges: 3t + k is side k of triangle t.
use Rattle.std.specs.Prelude.{ℕ, pos, ◌+◌, ◌*◌, ◌/◌, ◌%◌, List, slice_index_or}
use Rattle.quad_field.specs.Quads.{quad}
use Rattle.quad_field.specs.declared.quad.Quad.{Quad}
use Rattle.plane.specs.Vectors.{Vector, vector}
use Rattle.tri_core.specs.declared.half.Half.{Half}

-- what is read past the end of a list: a half-edge without length, which no triangulation has
abbrev pub no_half : Half
no_half = record { vec = record { s = quad (pos 0) (pos 0); t = quad (pos 0) (pos 0) }; twin = 0 }

-- the half-edge of number h
abbrev pub half_at : List Half → ℕ → Half
half_at halves h = slice_index_or halves h no_half

-- its vector
abbrev pub vector_at : List Half → ℕ → Vector Quad
vector_at halves h = vector (half_at halves h).vec

-- the number of its twin
abbrev pub twin_at : List Half → ℕ → ℕ
twin_at halves h = (half_at halves h).twin

-- the triangle of a half-edge
abbrev pub triangle_of : ℕ → ℕ
triangle_of h = h / 3

-- the half-edge after h in its triangle
abbrev pub next_of : ℕ → ℕ
next_of h = 3 * (h / 3) + (h % 3 + 1) % 3

-- the half-edge before h in its triangle
abbrev pub previous_of : ℕ → ℕ
previous_of h = 3 * (h / 3) + (h % 3 + 2) % 3
