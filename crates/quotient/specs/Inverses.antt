-- The inverses of the matrices of a tree.
use Rattle.std.specs.Prelude.{◌≡◌, ℕ, ◌<◌, List, length}
use Rattle.plane.specs.Matrices.{FieldMatrix, IsInLowestTerms}
use Rattle.quotient.specs.Trees.{matrix_at}
use Rattle.quotient.specs.Width.{IsInverse}

-- a list has the inverses of the first n matrices of a tree, which are in lowest terms
abbrev pub AreInversesBelow : ℕ → ℕ → List FieldMatrix → List FieldMatrix → Type 0
AreInversesBelow d n tree inverses = (c : ℕ) → c < n → IsInLowestTerms (matrix_at tree c) × IsInverse d (matrix_at tree c) (matrix_at inverses c)

-- those of all
abbrev pub AreInverses : ℕ → List FieldMatrix → List FieldMatrix → Type 0
AreInverses d tree inverses = (length inverses ≡ length tree) × AreInversesBelow d (length tree) tree inverses
