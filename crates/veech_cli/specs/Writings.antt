-- How the classes and the matrices of a base are written.
use Rattle.std.specs.Prelude.{ℕ, ℤ, Bool, false, true, List, length}
use Rattle.surface_text.specs.declared.file.Point.{Point}
use Rattle.plane.specs.Matrices.{FieldMatrix}
use Rattle.report_text.specs.Reports.{report_text}
use Rattle.answer_text.specs.SummaryTexts.{summary_lines, trial_lines}

-- a text of the classes and the matrices of a base at a point, over a field
abbrev pub Writing : Type 0
Writing = ℕ → Point → List (List ℤ) → List FieldMatrix → List ℕ

-- the summary: how many they are
abbrev pub summary_text : Writing
summary_text d at codes matrices = summary_lines (length codes) (length matrices)

-- the summary of the surface of a number, with the number before it
abbrev pub trial_text : ℕ → Writing
trial_text number d at codes matrices = trial_lines number (length codes) (length matrices)

-- what `plain` writes: the report, or its summary
abbrev pub plain_text : Bool → Writing
plain_text false = report_text
plain_text true = summary_text
