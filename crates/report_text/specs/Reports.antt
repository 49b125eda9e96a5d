-- The text of a report.
use Rattle.std.specs.Prelude.{ℕ, ℤ, List, [], ◌∷◌, ◌++◌, length, codes}
use Rattle.std.specs.List.{concat, flat_map}
use Rattle.quad_field.specs.declared.quad.Quad.{Quad}
use Rattle.plane.specs.Matrices.{FieldMatrix, entries_of}
use Rattle.plane.specs.Spelling.{natural_text, quad_text}
use Rattle.surface_text.specs.declared.file.Point.{Point}
use Rattle.surface_text.specs.Spelling.{point_text}
use Rattle.canon_code.specs.CodeText.{numbers_text}

-- a class by its code
abbrev pub class_text : List ℤ → List ℕ
class_text code = codes "class " ++ numbers_text code

-- the line of a class
abbrev pub class_line : List ℤ → List ℕ
class_line code = class_text code ++ codes "\n"

-- numbers of the field, each with a space before it
abbrev pub entries_text : List Quad → List ℕ
entries_text entries = flat_map (λ x. codes " " ++ quad_text x) entries

-- a matrix by its numbers, by rows, and their denominator
abbrev pub matrix_text : FieldMatrix → List ℕ
matrix_text m = concat (codes "matrix" ∷ entries_text (entries_of m.rows) ∷ codes " " ∷ natural_text m.denominator ∷ [])

-- the line of a matrix
abbrev pub matrix_line : FieldMatrix → List ℕ
matrix_line m = matrix_text m ++ codes "\n"

-- the lines of the version, the field and the base point
abbrev pub head_text : ℕ → Point → List ℕ
head_text d at = concat (codes "veech 1\nfield " ∷ natural_text d ∷ codes "\nbase " ∷ point_text at ∷ codes "\n" ∷ [])

-- the number of classes, and a line for each
abbrev pub classes_text : List (List ℤ) → List ℕ
classes_text classes = concat (codes "classes " ∷ natural_text (length classes) ∷ codes "\n" ∷ flat_map class_line classes ∷ [])

-- the number of matrices, and a line for each
abbrev pub matrices_text : List FieldMatrix → List ℕ
matrices_text matrices = concat (codes "matrices " ∷ natural_text (length matrices) ∷ codes "\n" ∷ flat_map matrix_line matrices ∷ [])

-- the report of a field, a base point, the codes of classes and matrices
abbrev pub report_text : ℕ → Point → List (List ℤ) → List FieldMatrix → List ℕ
report_text d at classes matrices = concat (head_text d at ∷ classes_text classes ∷ matrices_text matrices ∷ codes "end\n" ∷ [])
