-- The first places of a tree, and the matrix that a place has in it.
use Rattle.std.specs.Prelude.{◌≡◌, ℕ, ◌<◌, List, length}
use Rattle.plane.specs.Matrices.{FieldMatrix}
use Rattle.terrain.specs.declared.graph.Lead.{Lead}
use Rattle.quotient.specs.Trees.{IsFoundBy, IsProduct}

-- the first `size` places of the tree, in the order in which they are found, with their matrices
pub record IsTreePart (d : ℕ) (rows : List (List (Lead FieldMatrix))) (root : ℕ) (first : FieldMatrix) (found number : ℕ → ℕ) (matrix : ℕ → FieldMatrix) (size : ℕ) : Type 0 where
  pub some : 0 < size
  pub found_inside : (t : ℕ) → t < size → found t < length rows
  pub number_found : (t : ℕ) → t < size → number (found t) ≡ t
  pub found_number : (c : ℕ) → c < length rows → number c < size → found (number c) ≡ c
  pub root_first : found 0 ≡ root
  pub root_matrix : matrix root ≡ first
  pub each : (t : ℕ) → 0 < t → t < size → (j : ℕ) × (w : ℕ) × (lead : Lead FieldMatrix)
      × IsFoundBy rows found number t j w lead × IsProduct d (matrix (found j)) lead.link (matrix (found t))

-- m is H(c), the matrix of place c in the tree
pub record IsMatrixOf (d : ℕ) (rows : List (List (Lead FieldMatrix))) (root : ℕ) (first : FieldMatrix) (c : ℕ) (m : FieldMatrix) : Type 0 where
  pub found : ℕ → ℕ
  pub number : ℕ → ℕ
  pub matrix : ℕ → FieldMatrix
  pub size : ℕ
  pub part : IsTreePart d rows root first found number matrix size
  pub inside : c < length rows
  pub found_before : number c < size
  pub is : matrix c ≡ m
