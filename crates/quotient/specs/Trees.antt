-- The breadth-first tree of a graph, whose places are joined by leads with matrices.
use Rattle.std.specs.Prelude.{◌≡◌, ◌⊎◌, ℕ, ◌<◌, List, [], length, get_or}
use Rattle.plane.specs.Matrices.{FieldMatrix, identity, matrix_times, IsInLowestTerms, HaveOneValue}
use Rattle.terrain.specs.declared.graph.Lead.{Lead}
use Rattle.terrain.specs.Places.{IsAt}
use Rattle.terrain.specs.Reach.{Path}

-- what a list of lists has for place c, and a list of matrices; no definition asks past the end
abbrev pub row_at : {A : Type 0} → List (List A) → ℕ → List A
row_at rows c = get_or rows c []

abbrev pub matrix_at : List FieldMatrix → ℕ → FieldMatrix
matrix_at matrices c = get_or matrices c identity

-- wall w of place c has this lead
abbrev pub HasLead : List (List (Lead FieldMatrix)) → ℕ → ℕ → Lead FieldMatrix → Type 0
HasLead rows c w lead = IsAt (row_at rows c) w lead

-- one of the walls of place c leads to place e
abbrev pub LeadsTo : List (List (Lead FieldMatrix)) → ℕ → ℕ → Type 0
LeadsTo rows c e = (c < length rows) × ((w : ℕ) × (lead : Lead FieldMatrix) × HasLead rows c w lead × (lead.to ≡ e))

-- finitely many leads lead from the root to place c
abbrev pub IsReachedFrom : List (List (Lead FieldMatrix)) → ℕ → ℕ → Type 0
IsReachedFrom rows root c = ∥ Path (LeadsTo rows) root c ∥₁

-- an order of the places below n: place `found t` comes as the t-th, and `number c` is the number of place c
pub record IsOrder (n : ℕ) (found number : ℕ → ℕ) : Type 0 where
  pub found_inside : (t : ℕ) → t < n → found t < n
  pub number_inside : (c : ℕ) → c < n → number c < n
  pub number_found : (t : ℕ) → t < n → number (found t) ≡ t
  pub found_number : (c : ℕ) → c < n → found (number c) ≡ c

-- the t-th place is found by wall w of the j-th: of all walls, those of earlier places first, it is the first that leads to none of the places before the t-th
pub record IsFoundBy (rows : List (List (Lead FieldMatrix))) (found number : ℕ → ℕ) (t j w : ℕ) (lead : Lead FieldMatrix) : Type 0 where
  pub before : j < t
  pub leads : HasLead rows (found j) w lead
  pub to : lead.to ≡ found t
  pub first : (i v : ℕ) (other : Lead FieldMatrix) → (i < j) ⊎ ((i ≡ j) × (v < w)) → HasLead rows (found i) v other → number other.to < t

-- c is the product a·b, in lowest terms
abbrev pub IsProduct : ℕ → FieldMatrix → FieldMatrix → FieldMatrix → Type 0
IsProduct d a b c = IsInLowestTerms c × HaveOneValue (matrix_times d a b) c

-- the tree of the places, breadth first from the root: the root has the first matrix, and each other place the matrix of the place that found it times the link
pub record IsTree (d : ℕ) (rows : List (List (Lead FieldMatrix))) (root : ℕ) (first : FieldMatrix) (tree : List FieldMatrix) : Type 0 where
  pub found : ℕ → ℕ
  pub number : ℕ → ℕ
  pub order : IsOrder (length rows) found number
  pub as_many : length tree ≡ length rows
  pub root_first : found 0 ≡ root
  pub root_matrix : matrix_at tree root ≡ first
  pub each : (t : ℕ) → 0 < t → t < length rows → (j : ℕ) × (w : ℕ) × (lead : Lead FieldMatrix)
      × IsFoundBy rows found number t j w lead × IsProduct d (matrix_at tree (found j)) lead.link (matrix_at tree (found t))
