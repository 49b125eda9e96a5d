-- The quotients of a tree's leads and of turns, and the list of their values.
use Rattle.std.specs.Prelude.{◌≡◌, ◌⊎◌, ℕ, zero, suc, List, [], ◌∷◌, ◌++◌, map, length}
use Rattle.std.specs.List.{Contains}
use Rattle.plane.specs.Matrices.{FieldMatrix, identity, matrix_times, IsInLowestTerms, HaveOneValue}
use Rattle.terrain.specs.declared.graph.Lead.{Lead}
use Rattle.quotient.specs.Trees.{row_at, matrix_at}

-- a quotient of three matrices: left·middle·right⁻¹
pub record Quotient : Type 0 where
  pub left : FieldMatrix
  pub middle : FieldMatrix
  pub right : FieldMatrix

-- x is the value of a quotient, in lowest terms: x·right = left·middle
abbrev pub IsValueOf : ℕ → Quotient → FieldMatrix → Type 0
IsValueOf d q x = IsInLowestTerms x × HaveOneValue (matrix_times d x q.right) (matrix_times d q.left q.middle)

-- H(c)·G·H(e)⁻¹ for a lead by G from place c, with the matrix H(c), to place e
abbrev pub lead_quotient : List FieldMatrix → FieldMatrix → Lead FieldMatrix → Quotient
lead_quotient tree from lead = record { left = from; middle = lead.link; right = matrix_at tree lead.to }

-- those of all leads of the first n places, by places and walls
abbrev pub lead_quotients : List FieldMatrix → List (List (Lead FieldMatrix)) → ℕ → List Quotient
lead_quotients tree rows zero = []
lead_quotients tree rows (suc n) = lead_quotients tree rows n ++ map (lead_quotient tree (matrix_at tree n)) (row_at rows n)

-- H(c)·F·H(c)⁻¹ for a turn F of place c
abbrev pub turn_quotient : FieldMatrix → FieldMatrix → Quotient
turn_quotient at turn = record { left = at; middle = turn; right = at }

-- those of all turns of the first n places, by places and turns
abbrev pub turn_quotients : List FieldMatrix → List (List FieldMatrix) → ℕ → List Quotient
turn_quotients tree turns zero = []
turn_quotients tree turns (suc n) = turn_quotients tree turns n ++ map (turn_quotient (matrix_at tree n)) (row_at turns n)

-- the quotients of all leads, and then those of all turns
abbrev pub quotients : List FieldMatrix → List (List (Lead FieldMatrix)) → List (List FieldMatrix) → List Quotient
quotients tree rows turns = lead_quotients tree rows (length rows) ++ turn_quotients tree turns (length turns)

-- the values of a list of quotients, in their order, but for identities and for repeats
pub data AreValues (d : ℕ) : List Quotient → List FieldMatrix → Type 0 where
  none : AreValues d [] []
  kept : (qs : List Quotient) (xs : List FieldMatrix) (q : Quotient) (x : FieldMatrix) → AreValues d qs xs → IsValueOf d q x → ¬ (x ≡ identity) → ¬ (Contains xs x)
      → AreValues d (qs ++ q ∷ []) (xs ++ x ∷ [])
  left_out : (qs : List Quotient) (xs : List FieldMatrix) (q : Quotient) (x : FieldMatrix) → AreValues d qs xs → IsValueOf d q x → (x ≡ identity) ⊎ Contains xs x
      → AreValues d (qs ++ q ∷ []) xs

-- the generating matrices of a tree: the values of the quotients of all leads and turns
abbrev pub AreQuotients : ℕ → List FieldMatrix → List (List (Lead FieldMatrix)) → List (List FieldMatrix) → List FieldMatrix → Type 0
AreQuotients d tree rows turns matrices = AreValues d (quotients tree rows turns) matrices
