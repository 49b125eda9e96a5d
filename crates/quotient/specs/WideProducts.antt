-- When a product is wide in a quotient whose inverse is at hand.
use Rattle.std.specs.Prelude.{◌≡◌, ◌⊎◌, ℕ, ◌<◌, List, length}
use Rattle.plane.specs.Matrices.{FieldMatrix}
use Rattle.plane.specs.MatrixWidth.{ProductFits}
use Rattle.terrain.specs.declared.graph.Lead.{Lead}
use Rattle.terrain.specs.Places.{IsAt}
use Rattle.quotient.specs.Trees.{row_at, matrix_at, IsProduct}

-- F10 is wide in (h·g)·i: in h·g, or in p·i, where p is h·g in lowest terms
abbrev pub IsWideProduct : ℕ → FieldMatrix → FieldMatrix → FieldMatrix → Type 0
IsWideProduct d h g i = ¬ (ProductFits d h g) ⊎ ((p : FieldMatrix) × IsProduct d h g p × ¬ (ProductFits d p i))

-- it is wide in the quotient of a lead of place c
abbrev pub IsWideLead : ℕ → List FieldMatrix → List FieldMatrix → ℕ → List (Lead FieldMatrix) → Type 0
IsWideLead d tree inverses c row =
    (w : ℕ) × (lead : Lead FieldMatrix) × IsAt row w lead × IsWideProduct d (matrix_at tree c) lead.link (matrix_at inverses lead.to)

-- it is wide in the quotient of a turn of place c
abbrev pub IsWideTurn : ℕ → List FieldMatrix → List FieldMatrix → ℕ → List FieldMatrix → Type 0
IsWideTurn d tree inverses c turns = (w : ℕ) × (turn : FieldMatrix) × IsAt turns w turn × IsWideProduct d (matrix_at tree c) turn (matrix_at inverses c)

-- it is wide in the quotient of a lead of some place
abbrev pub AnyWideLead : ℕ → List FieldMatrix → List FieldMatrix → List (List (Lead FieldMatrix)) → Type 0
AnyWideLead d tree inverses rows = (c : ℕ) × (c < length tree) × IsWideLead d tree inverses c (row_at rows c)

-- it is wide in the quotient of a turn of some place
abbrev pub AnyWideTurn : ℕ → List FieldMatrix → List FieldMatrix → List (List FieldMatrix) → Type 0
AnyWideTurn d tree inverses turns = (c : ℕ) × (c < length tree) × IsWideTurn d tree inverses c (row_at turns c)
