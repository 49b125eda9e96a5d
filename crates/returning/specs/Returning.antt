-- The returning derivatives of a base, and the matrices that a list generates.
use Rattle.std.specs.Prelude.{◌≡◌, ℕ, pos, ◌*◌, ◌<◌, List}
use Rattle.std.specs.List.{Contains}
use Rattle.rings.specs.Matrices.{matrix_det}
use Rattle.quad_field.specs.Quads.{quad_ops, IsPositive}
use Rattle.plane.specs.Matrices.{FieldMatrix, identity, matrix_times, HaveOneValue}
use Rattle.tri_core.specs.declared.half.Half.{Half}
use Rattle.tri_core.specs.Images.{IsImageBy}
use Rattle.wall_cross.specs.Crossings.{IsReached}

-- a matrix over the field of positive determinant
abbrev pub IsMatrix : ℕ → FieldMatrix → Type 0
IsMatrix d a = (0 < a.denominator) × IsPositive d (matrix_det (quad_ops d) a.rows)

-- a returning derivative of a base: a matrix over the field of positive determinant that takes the base, up to a translation, to a triangulation that finitely many crossings reach from it
abbrev pub IsReturning : ℕ → List Half → FieldMatrix → Type 0
IsReturning d base a = IsMatrix d a × ∥ ((end : List Half) × IsReached d base end × IsImageBy d a.rows a.denominator base end) ∥₁

-- a finite product of matrices of a list and of their inverses: the identity, with a matrix a also a·g, and with a·g also a, for each g of the list
pub data IsProductOf (d : ℕ) (list : List FieldMatrix) : FieldMatrix → Type 0 where
  empty : (a : FieldMatrix) → IsMatrix d a → HaveOneValue a identity → IsProductOf d list a
  longer : (a g b : FieldMatrix) → IsProductOf d list a → Contains list g → IsMatrix d b → HaveOneValue (matrix_times d a g) b → IsProductOf d list b
  divided : (a g b : FieldMatrix) → IsMatrix d a → Contains list g → IsProductOf d list b → HaveOneValue (matrix_times d a g) b → IsProductOf d list a

-- a generated matrix: it is such a product, in whatever way
abbrev pub IsGenerated : ℕ → List FieldMatrix → FieldMatrix → Type 0
IsGenerated d list a = ∥ IsProductOf d list a ∥₁

-- the determinant is 1: that of the rows is the square of the denominator
abbrev pub HasDeterminantOne : ℕ → FieldMatrix → Type 0
HasDeterminantOne d a = matrix_det (quad_ops d) a.rows ≡ (quad_ops d).int (pos (a.denominator * a.denominator))
