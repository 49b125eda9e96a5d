-- Which K-integers divide a whole number.
use Rattle.std.specs.Prelude.{◌≡◌, ℕ, pos, ◌<◌}
use Rattle.quad_field.specs.declared.quad.Quad.{Quad}
use Rattle.quad_field.specs.Quads.{quad_ops}

-- some multiple of x is a whole number above zero
pub record HasWhole (d : ℕ) (x : Quad) : Type 0 where
  pub multiplier : Quad
  pub whole : ℕ
  pub positive : 0 < whole
  pub multiple : (quad_ops d).mul x multiplier ≡ (quad_ops d).int (pos whole)
