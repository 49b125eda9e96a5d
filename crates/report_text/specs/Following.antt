-- Which line of a report may stand behind which lines.
use Rattle.std.specs.Prelude.{◌≡◌, ℕ, ◌+◌, ◌<◌, ℤ, List, [], ◌∷◌, ◌++◌, length, ⊤}
use Rattle.quad_field.specs.FieldNumber.{IsFieldNumber}
use Rattle.surface_text.specs.Limits.{IsBasePoint}
use Rattle.report_text.specs.Lines.{Line}
use Rattle.report_text.specs.Lines.Line.{version, field, base, class_count, class, matrix_count, matrix, end}
use Rattle.report_text.specs.Limits.{IsWithin, IsClassCount, IsClass, IsAboveLast, IsMatrix}

-- what the lines so far say of those to come: the number of the field; how many class lines are wanted, and the codes of those that have come;
-- how many matrix lines are wanted, and how many have come
pub data SoFar : Type 0 where
  nothing : SoFar
  begun : SoFar
  over : ℕ → SoFar
  based : ℕ → SoFar
  classes : ℕ → ℕ → List (List ℤ) → SoFar
  matrices : ℕ → ℕ → SoFar
  whole : SoFar

-- the line may stand there: it has the word that is wanted, and keeps to its limits
abbrev pub MayFollow : SoFar → Line → Type 0
MayFollow nothing version = ⊤
MayFollow begun (field d) = IsFieldNumber d
MayFollow (over d) (base at) = IsBasePoint at
MayFollow (based d) (class_count n) = IsClassCount n
MayFollow (classes d n come) (class code) = (length come < n) × IsClass d code × IsAboveLast come code
MayFollow (classes d n come) (matrix_count m) = (length come ≡ n) × IsWithin m
MayFollow (matrices m come) (matrix a) = (come < m) × IsMatrix a
MayFollow (matrices m come) end = come ≡ m
MayFollow so line = ⊥

-- what the lines so far say together with one that may follow
abbrev pub with_line : SoFar → Line → SoFar
with_line so version = begun
with_line so (field d) = over d
with_line (over d) (base at) = based d
with_line (based d) (class_count n) = classes d n []
with_line (classes d n come) (class code) = classes d n (come ++ code ∷ [])
with_line so (matrix_count m) = matrices m 0
with_line (matrices m come) (matrix a) = matrices m (come + 1)
with_line so end = whole
with_line so line = so

-- and with further lines
abbrev pub with_lines : SoFar → List Line → SoFar
with_lines so [] = so
with_lines so (line ∷ lines) = with_lines (with_line so line) lines

-- each of the lines may follow the lines before it
abbrev pub AllFollow : SoFar → List Line → Type 0
AllFollow so [] = ⊤
AllFollow so (line ∷ lines) = MayFollow so line × AllFollow (with_line so line) lines

-- class lines over this field are wanted, and fewer than so many have come
abbrev pub WantsClass : SoFar → ℕ → Type 0
WantsClass (classes d n come) number = (d ≡ number) × (length come < n)
WantsClass so number = ⊥
