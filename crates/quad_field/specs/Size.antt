-- A whole number that no K-integer's value exceeds.
use Rattle.std.specs.Prelude.{ℕ, ◌+◌, ◌*◌, unsigned_abs}
use Rattle.quad_field.specs.declared.quad.Quad.{Quad}

-- |a| + |b|·D
abbrev pub size : ℕ → Quad → ℕ
size d x = unsigned_abs x.a + unsigned_abs x.b * d
