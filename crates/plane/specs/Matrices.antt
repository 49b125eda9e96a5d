-- Matrices over the field: rows of K-integers over a denominator, in lowest terms.
use Rattle.std.specs.Prelude.{◌≡◌, ℕ, ◌*◌, ◌<◌, ℤ, pos, List, [], ◌∷◌, slice_index_or}
use Prim.Native.Nat.{◌∣◌}
use Rattle.rings.specs.Matrices.{Matrix, matrix_product}
use Rattle.quad_field.specs.declared.quad.Quad.{Quad}
use Rattle.quad_field.specs.Quads.{quad, quad_ops, scaled}
use Rattle.quad_field.specs.Content.{DividesAll}

-- a matrix over the field: its rows over its denominator
pub record FieldMatrix : Type 0 where
  pub rows : Matrix Quad
  pub denominator : ℕ

-- (1, 0; 0, 1) over 1
abbrev pub identity : FieldMatrix
identity = record { rows = (quad (pos 1) (pos 0), quad (pos 0) (pos 0), quad (pos 0) (pos 0), quad (pos 1) (pos 0)); denominator = 1 }

-- four numbers by rows, and as a list
abbrev pub rows_of : List Quad → Matrix Quad
rows_of n =
    let zero = quad (pos 0) (pos 0) in
    (slice_index_or n 0 zero, slice_index_or n 1 zero, slice_index_or n 2 zero, slice_index_or n 3 zero)

abbrev pub entries_of : Matrix Quad → List Quad
entries_of n = n.0 ∷ n.1 ∷ n.2 ∷ n.3 ∷ []

-- k·n for a whole number k
abbrev pub scaled_matrix : ℤ → Matrix Quad → Matrix Quad
scaled_matrix k n = (scaled k n.0, scaled k n.1, scaled k n.2, scaled k n.3)

-- in lowest terms: the denominator is above zero, and no whole number above 1 divides it and all parts of the rows
pub record IsInLowestTerms (m : FieldMatrix) : Type 0 where
  pub positive : 0 < m.denominator
  pub alone : (k : ℕ) → DividesAll k (entries_of m.rows) → k ∣ m.denominator → k ≡ 1

-- n over den is the matrix m: a whole number above zero is cancelled
abbrev pub IsReducedTo : Matrix Quad → ℤ → FieldMatrix → Type 0
IsReducedTo n den m = (g : ℕ) × (0 < g) × (n ≡ scaled_matrix (pos g) m.rows) × (den ≡ pos (g * m.denominator))

-- two matrices have one value: n1/m1 = n2/m2 where m2·n1 = m1·n2
abbrev pub HaveOneValue : FieldMatrix → FieldMatrix → Type 0
HaveOneValue a b = scaled_matrix (pos b.denominator) a.rows ≡ scaled_matrix (pos a.denominator) b.rows

-- the product of n1/m1 and n2/m2 is (n1·n2)/(m1·m2), not in lowest terms: it maps by the second first
abbrev pub matrix_times : ℕ → FieldMatrix → FieldMatrix → FieldMatrix
matrix_times d a b = record { rows = matrix_product (quad_ops d) a.rows b.rows; denominator = a.denominator * b.denominator }

-- one matrix is the inverse of another: both products have the value of the identity
abbrev pub IsInverseOf : ℕ → FieldMatrix → FieldMatrix → Type 0
IsInverseOf d a b = HaveOneValue (matrix_times d a b) identity × HaveOneValue (matrix_times d b a) identity
