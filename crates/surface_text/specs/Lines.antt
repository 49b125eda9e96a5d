-- For private contracts alone: what is read line by line, a file so far and the line that follows it.
use Rattle.std.specs.Prelude.{◌≡◌, ◌≢◌, ◌≤◌, ◌<◌, ℕ, List, [], ◌∷◌, ◌++◌, length, ⊤}
use Rattle.std.specs.List.{AllByRecursion}
use Rattle.quad_field.specs.FieldNumber.{IsFieldNumber}
use Rattle.plane.specs.declared.vec2.Vec2.{Vec2}
use Rattle.surface_text.specs.declared.cause.Cause.{Cause}
use Rattle.surface_text.specs.declared.cause.Cause.TheVariants.{NoLine, CutLine, BadByte}
use Rattle.surface_text.specs.declared.file.TextFault.{TextFault}
use Rattle.surface_text.specs.declared.file.TextFault.TheVariants.{Bad, Memory}
use Rattle.surface_text.specs.declared.lines.BodyLine.{BodyLine}
use Rattle.surface_text.specs.declared.lines.BodyLine.TheVariants as body_lines
use Rattle.surface_text.specs.declared.sides.LineFault.{LineFault}
use Rattle.surface_text.specs.declared.sides.LineFault.TheVariants as faults
use Rattle.surface_text.specs.Spelling.{Line, Content, line_text, lines_then, lines_of}
use Rattle.surface_text.specs.Limits.{IsBasePoint, IsPolygon, NamesSides, IsWithinLimits}
use Rattle.surface_text.specs.Causes.{number_of, FrontOf, IsPrinted, IsLeast}

-- sides are no more than a polygon line of 1,048,576 bytes can have
abbrev pub HasFittingLength : List Vec2 → Type 0
HasFittingLength sides = length sides ≤ 1048576

-- a file that may still grow: within the limits, but that it may have no polygon yet
pub record IsSoFar (file : Content) : Type 0 where
  pub field : IsFieldNumber file.field
  pub bases : AllByRecursion IsBasePoint file.bases
  pub few_bases : length file.bases ≤ 8
  pub polygons : AllByRecursion IsPolygon file.polygons
  pub few_polygons : length file.polygons ≤ 256
  pub lengths : AllByRecursion HasFittingLength file.polygons
  pub glues : AllByRecursion (NamesSides file.polygons) file.glues

-- the line that a line in memory is
abbrev pub line_of : BodyLine → Line
line_of (body_lines.Base at) = Line.base at
line_of (body_lines.Polygon polygon) = Line.polygon polygon.sides.items
line_of (body_lines.Glue g) = Line.glue g
line_of body_lines.End = Line.end

-- the line may follow the lines of the file so far, within the limits
abbrev pub MayFollow : Content → Line → Type 0
MayFollow file Line.flat = ⊥
MayFollow file (Line.field d) = ⊥
MayFollow file (Line.base at) = (file.polygons ≡ []) × (file.glues ≡ []) × (length file.bases < 8) × IsBasePoint at
MayFollow file (Line.polygon sides) = (file.glues ≡ []) × (length file.polygons < 256) × IsPolygon sides
MayFollow file (Line.glue g) = (1 ≤ length file.polygons) × NamesSides file.polygons g
MayFollow file Line.end = 1 ≤ length file.polygons

-- the rest begins with this line and its line feed, and the line may follow
pub record IsTaken (file : Content) (rest : List ℕ) (line : Line) (after : List ℕ) : Type 0 where
  pub spelled : rest ≡ line_text line ++ 10 ∷ after
  pub follows : MayFollow file line

-- a refusal of a line names the least cause that holds behind these lines; want of memory says nothing
abbrev pub IsLineRefused : List Line → List ℕ → LineFault → Type 0
IsLineRefused before rest (faults.Bad cause) = IsLeast cause before rest
IsLineRefused before rest faults.Memory = ⊤

-- the rest begins with this line of printed characters, and its line feed
abbrev pub IsNextLine : List ℕ → List ℕ → List ℕ → Type 0
IsNextLine rest line after = FrontOf 10 rest line (10 ∷ after) × AllByRecursion IsPrinted line

-- the rest begins with no such line, for this cause
abbrev pub IsNoNextLine : List ℕ → Cause → Type 0
IsNoNextLine rest NoLine = rest ≡ []
IsNoNextLine rest CutLine = (rest ≢ []) × AllByRecursion (λ byte. byte ≢ 10) rest
IsNoNextLine rest BadByte = (line after : List ℕ) × FrontOf 10 rest line (10 ∷ after) × ¬ (AllByRecursion IsPrinted line)
IsNoNextLine rest cause = ⊥

-- a refusal of a line, as the refusal of the text in the line of this number
abbrev pub IsFaultAt : LineFault → ℕ → TextFault → Type 0
IsFaultAt (faults.Bad cause) line fault = fault ≡ Bad (number_of cause) line
IsFaultAt faults.Memory line fault = fault ≡ Memory

-- the bytes behind the field line of this number, and the two lines before them
abbrev pub behind_field : ℕ → List ℕ → List ℕ
behind_field d bytes = lines_then (Line.flat ∷ Line.field d ∷ []) bytes

-- the bytes are all lines of this file within the limits, and then the rest
pub record IsBody (bytes : List ℕ) (file : Content) (rest : List ℕ) : Type 0 where
  pub spelled : bytes ≡ lines_then (lines_of file) rest
  pub limits : IsWithinLimits file
  pub few_glues : length file.glues ≤ 1048576
