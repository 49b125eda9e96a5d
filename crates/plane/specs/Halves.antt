-- The two halves of the plane.
use Rattle.std.specs.Prelude.{◌≡◌, ℕ, pos, ◌⊎◌}
use Rattle.quad_field.specs.Quads.{quad_ops, IsPositive}
use Rattle.quad_field.specs.declared.quad.Quad.{Quad}
use Rattle.plane.specs.Vectors.{Vector}

-- a vector (s, t) is in the upper half: t > 0, or t = 0 and s > 0
abbrev pub IsUpper : ℕ → Vector Quad → Type 0
IsUpper d v = IsPositive d v.1 ⊎ ((v.1 ≡ (quad_ops d).int (pos 0)) × IsPositive d v.0)
