-- The limits of a report.
use Rattle.std.specs.Prelude.{◌≡◌, ℕ, ◌<◌, ◌≤◌, ◌^◌, ℤ, List, [], ◌∷◌, length, ⊤}
use Rattle.std.specs.List.{AllByRecursion}
use Rattle.quad_field.specs.FieldNumber.{IsFieldNumber}
use Rattle.quad_field.specs.Width.{PartsFit}
use Rattle.plane.specs.Matrices.{FieldMatrix, entries_of, IsInLowestTerms}
use Rattle.surface_text.specs.declared.file.Point.{Point}
use Rattle.surface_text.specs.Limits.{IsBasePoint}
use Rattle.canon_code.specs.Codes.{IsBefore}
use Rattle.canon_code.specs.CodeText.{numbers_text, Lists}
use Rattle.canon_code.specs.Refusals.{IsCodeOver}
use Rattle.report_text.specs.Reports.{matrix_text}

-- a natural number within i128
abbrev pub IsWithin : ℕ → Type 0
IsWithin n = n < 2 ^ 127

-- a number of classes: at least one
abbrev pub IsClassCount : ℕ → Type 0
IsClassCount n = (1 ≤ n) × IsWithin n

-- a code of a triangulation over the field of √d, with all its numbers within i128
abbrev pub IsClass : ℕ → List ℤ → Type 0
IsClass d code = Lists (numbers_text code) code × IsCodeOver d code

-- the code is above the last of these, where there is a last
abbrev pub IsAboveLast : List (List ℤ) → List ℤ → Type 0
IsAboveLast [] code = ⊤
IsAboveLast (last ∷ []) code = IsBefore last code
IsAboveLast (one ∷ next ∷ others) code = IsAboveLast (next ∷ others) code

-- each code is above the one before it
abbrev pub IsAscending : List (List ℤ) → Type 0
IsAscending [] = ⊤
IsAscending (code ∷ []) = ⊤
IsAscending (code ∷ next ∷ others) = IsBefore code next × IsAscending (next ∷ others)

-- a matrix in lowest terms, all its numbers and its denominator within i128
pub record IsMatrix (m : FieldMatrix) : Type 0 where
  pub lowest : IsInLowestTerms m
  pub entries : AllByRecursion PartsFit (entries_of m.rows)
  pub denominator : IsWithin m.denominator

-- the line is that of this matrix
abbrev pub IsMatrixLine : List ℕ → FieldMatrix → Type 0
IsMatrixLine line m = (line ≡ matrix_text m) × IsMatrix m

-- a report within the limits: over a field, at a base point, with at least one class, the codes strictly ascending
pub record IsReport (d : ℕ) (at : Point) (classes : List (List ℤ)) (matrices : List FieldMatrix) : Type 0 where
  pub field : IsFieldNumber d
  pub point : IsBasePoint at
  pub some : 1 ≤ length classes
  pub codes : AllByRecursion (IsClass d) classes
  pub ascending : IsAscending classes
  pub matrices_are : AllByRecursion IsMatrix matrices
  pub few_classes : IsWithin (length classes)
  pub few_matrices : IsWithin (length matrices)
