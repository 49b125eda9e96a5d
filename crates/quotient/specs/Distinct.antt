-- A list of different matrices, with their parts in order.
use Rattle.std.specs.Prelude.{◌≡◌, ◌⊎◌, ℤ, pos, List, [], ◌∷◌, ◌++◌, ◌↔◌, IsTrue}
use Rattle.std.specs.List.{Contains}
use Rattle.std.specs.Ordering.{int_cmp}
use Rattle.std.specs.Cmp.Lexicographic.{slice_cmp}
use Rattle.std.specs.BTreeSet.{BTreeSet, contains}
use Rattle.plane.specs.Matrices.{FieldMatrix, identity}

-- the parts of a matrix's entries by rows, and its denominator
abbrev pub parts_of : FieldMatrix → List ℤ
parts_of m =
    let n = m.rows in
    n.0.a ∷ n.0.b ∷ n.1.a ∷ n.1.b ∷ n.2.a ∷ n.2.b ∷ n.3.a ∷ n.3.b ∷ pos m.denominator ∷ []

-- the set holds the parts of the identity and of the matrices of the list, and of no others
abbrev pub IsKept : List FieldMatrix → BTreeSet (List ℤ) → Type 0
IsKept matrices set = (x : FieldMatrix) → IsTrue (contains (slice_cmp int_cmp) set (parts_of x)) ↔ ((x ≡ identity) ⊎ Contains matrices x)

-- `after` has the matrices of `before`, and x at the end unless x is the identity or stands there
abbrev pub HasTaken : List FieldMatrix → FieldMatrix → List FieldMatrix → Type 0
HasTaken before x after =
    (((x ≡ identity) ⊎ Contains before x) × (after ≡ before))
    ⊎ (¬ (x ≡ identity) × ¬ (Contains before x) × (after ≡ before ++ x ∷ []))
