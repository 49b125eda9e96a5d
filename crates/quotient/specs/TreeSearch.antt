-- The search that finds a tree, under way.
use Rattle.std.specs.Prelude.{◌≡◌, ◌⊎◌, ℕ, ◌<◌, ◌≤◌, Bool, false, List, length, get_or, ◌↔◌, IsTrue}
use Rattle.plane.specs.Matrices.{FieldMatrix}
use Rattle.terrain.specs.declared.graph.Lead.{Lead}
use Rattle.quotient.specs.Trees.{matrix_at, HasLead}
use Rattle.quotient.specs.TreeParts.{IsTreePart}

-- `size` places are found, and the walls before wall w of the t-th of them are looked at
pub record IsTreeSearch (d : ℕ) (rows : List (List (Lead FieldMatrix))) (root : ℕ) (first : FieldMatrix) (found number : ℕ → ℕ) (matrix : ℕ → FieldMatrix) (size t w : ℕ) : Type 0 where
  pub part : IsTreePart d rows root first found number matrix size
  pub none : (c : ℕ) → c < length rows → ¬ (number c < size) → length rows ≤ number c
  pub looked : (i v : ℕ) (lead : Lead FieldMatrix) → (i < t) ⊎ ((i ≡ t) × (v < w)) → HasLead rows (found i) v lead → number lead.to < size

-- the same of a search that has the places in the order in which they are found, for each place whether it is found, and the matrices of those that are
pub record IsSearch (d : ℕ) (rows : List (List (Lead FieldMatrix))) (root : ℕ) (first : FieldMatrix) (order : List ℕ) (is_found : List Bool) (tree : List FieldMatrix) (t w : ℕ) : Type 0 where
  pub number : ℕ → ℕ
  pub search : IsTreeSearch d rows root first (λ k. get_or order k 0) number (matrix_at tree) (length order) t w
  pub marked : (c : ℕ) → c < length rows → IsTrue (get_or is_found c false) ↔ (number c < length order)
  pub marks : length is_found ≡ length rows
  pub matrices : length tree ≡ length rows

-- the t-th place is `from`, and the walls before wall w of it are looked at
pub record IsSearchAt (d : ℕ) (rows : List (List (Lead FieldMatrix))) (root : ℕ) (first : FieldMatrix) (order : List ℕ) (is_found : List Bool) (tree : List FieldMatrix) (t from w : ℕ) : Type 0 where
  pub search : IsSearch d rows root first order is_found tree t w
  pub here : t < length order
  pub place : get_or order t 0 ≡ from
