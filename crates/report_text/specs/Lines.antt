-- The lines of a report, each ended by a line feed.
use Rattle.std.specs.Prelude.{ℕ, ℤ, List, [], ◌∷◌, ◌++◌, length, map, codes}
use Rattle.plane.specs.Matrices.{FieldMatrix}
use Rattle.plane.specs.Spelling.{natural_text}
use Rattle.surface_text.specs.declared.file.Point.{Point}
use Rattle.surface_text.specs.Spelling.{point_text}
use Rattle.report_text.specs.Reports.{class_text, matrix_text}

-- a line of a report
pub data Line : Type 0 where
  version : Line
  field : ℕ → Line
  base : Point → Line
  class_count : ℕ → Line
  class : List ℤ → Line
  matrix_count : ℕ → Line
  matrix : FieldMatrix → Line
  end : Line

-- the text of a line without its line feed
abbrev pub line_text : Line → List ℕ
line_text version = codes "veech 1"
line_text (field d) = codes "field " ++ natural_text d
line_text (base at) = codes "base " ++ point_text at
line_text (class_count n) = codes "classes " ++ natural_text n
line_text (class code) = class_text code
line_text (matrix_count n) = codes "matrices " ++ natural_text n
line_text (matrix m) = matrix_text m
line_text end = codes "end"

-- the texts of lines, a line feed (10) behind each, and then the rest
abbrev pub lines_then : List Line → List ℕ → List ℕ
lines_then [] rest = rest
lines_then (line ∷ lines) rest = line_text line ++ 10 ∷ lines_then lines rest

-- the lines up to the number of classes
abbrev pub head_lines : ℕ → Point → ℕ → List Line
head_lines d at n = version ∷ field d ∷ base at ∷ class_count n ∷ []

-- the lines behind those of the classes
abbrev pub tail_lines : List FieldMatrix → List Line
tail_lines matrices = matrix_count (length matrices) ∷ (map matrix matrices ++ end ∷ [])

-- the lines of a report, in their order
abbrev pub report_lines : ℕ → Point → List (List ℤ) → List FieldMatrix → List Line
report_lines d at classes matrices = head_lines d at (length classes) ++ (map class classes ++ tail_lines matrices)
