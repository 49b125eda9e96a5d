-- Where a text is refused, and why: the first line with a cause, and the least cause in it.
use Rattle.std.specs.Prelude.{◌≡◌, ◌≢◌, ℕ, ◌+◌, ◌≤◌, ◌<◌, List, [], ◌∷◌, ◌++◌, length, codes, Contains, ⊤}
use Rattle.std.specs.List.{AllByRecursion}
use Rattle.quad_field.specs.FieldNumber.{IsFieldNumber}
use Rattle.plane.specs.declared.vec2.Vec2.{Vec2}
use Rattle.surface_text.specs.declared.cause.Cause.{Cause}
use Rattle.surface_text.specs.declared.cause.Cause.TheVariants.{NoLine, CutLine, BadByte, BadFirst, BadKind, BadForm, BadNumber, BadField, BadBase, ManyBases, FewSides, ManyPolygons, BadName, AfterEnd}
use Rattle.surface_text.specs.Spelling.{Line, line_text, lines_then}
use Rattle.surface_text.specs.Spelling.Line.{flat, field, base, polygon, glue, end}
use Rattle.surface_text.specs.Limits.{HasFractions, IsBoundedPoint, IsBoundedVector, IsAbove, NamesSides}

-- the number of a cause
abbrev pub number_of : Cause → ℕ
number_of NoLine = 1
number_of CutLine = 2
number_of BadByte = 3
number_of BadFirst = 4
number_of BadKind = 5
number_of BadForm = 6
number_of BadNumber = 7
number_of BadField = 8
number_of BadBase = 9
number_of ManyBases = 10
number_of FewSides = 11
number_of ManyPolygons = 12
number_of BadName = 13
number_of AfterEnd = 14

-- there are no bytes, or they begin with the stop
abbrev pub StopsAt : ℕ → List ℕ → Type 0
StopsAt stop [] = ⊤
StopsAt stop (byte ∷ bytes) = byte ≡ stop

-- the bytes up to the first stop, or all of them, and what is left, which begins with the stop
pub record FrontOf (stop : ℕ) (bytes front tail : List ℕ) : Type 0 where
  pub found : bytes ≡ front ++ tail
  pub lacks : AllByRecursion (λ byte. byte ≢ stop) front
  pub stops : StopsAt stop tail

-- the words that may stand on the line behind a line
abbrev pub words_behind : Line → List (List ℕ)
words_behind flat = codes "field" ∷ []
words_behind (field d) = codes "base" ∷ codes "polygon" ∷ []
words_behind (base at) = codes "base" ∷ codes "polygon" ∷ []
words_behind (polygon sides) = codes "polygon" ∷ codes "glue" ∷ codes "end" ∷ []
words_behind (glue g) = codes "glue" ∷ codes "end" ∷ []
words_behind end = []

-- the words that may stand on the line behind these lines
abbrev pub words_after : List Line → List (List ℕ)
words_after [] = codes "flat" ∷ []
words_after (line ∷ []) = words_behind line
words_after (line ∷ next ∷ lines) = words_after (next ∷ lines)

-- a further line is wanted: the last one isn't `end`
abbrev pub IsWanted : List Line → Type 0
IsWanted before = words_after before ≢ []

-- the byte is that of a printed character
abbrev pub IsPrinted : ℕ → Type 0
IsPrinted byte = (32 ≤ byte) × (byte ≤ 126)

-- the form of a line beyond its spelling: its fractions have their form, and a polygon line has a vector
abbrev pub HasForm : Line → Type 0
HasForm (base at) = HasFractions at
HasForm (polygon sides) = 1 ≤ length sides
HasForm line = ⊤

-- the bytes spell this line, which has its form
abbrev pub IsLine : List ℕ → Line → Type 0
IsLine bytes line = (bytes ≡ line_text line) × HasForm line

-- the numbers of a base line or a polygon line are bounded
abbrev pub HasBoundedNumbers : Line → Type 0
HasBoundedNumbers (base at) = IsBoundedPoint at
HasBoundedNumbers (polygon sides) = AllByRecursion IsBoundedVector sides
HasBoundedNumbers line = ⊤

-- how many base lines there are
abbrev pub base_lines : List Line → ℕ
base_lines [] = 0
base_lines (base at ∷ lines) = base_lines lines + 1
base_lines (line ∷ lines) = base_lines lines

-- the polygons of the polygon lines
abbrev pub polygons_in : List Line → List (List Vec2)
polygons_in [] = []
polygons_in (polygon sides ∷ lines) = sides ∷ polygons_in lines
polygons_in (line ∷ lines) = polygons_in lines

-- the number of a field line isn't that of a field
abbrev pub IsNoField : Line → Type 0
IsNoField (field d) = ¬ (IsFieldNumber d)
IsNoField line = ⊥

-- the point of a base line lies on the parabola or below: Y ≤ X·X
abbrev pub IsOnOrBelow : Line → Type 0
IsOnOrBelow (base at) = ¬ (IsAbove at)
IsOnOrBelow line = ⊥

-- the line is a base line
abbrev pub IsBaseLine : Line → Type 0
IsBaseLine (base at) = ⊤
IsBaseLine line = ⊥

-- the line is a polygon line
abbrev pub IsPolygonLine : Line → Type 0
IsPolygonLine (polygon sides) = ⊤
IsPolygonLine line = ⊥

-- a polygon line with fewer than three vectors
abbrev pub HasFewSides : Line → Type 0
HasFewSides (polygon sides) = length sides < 3
HasFewSides line = ⊥

-- a glue line names a polygon or a side that isn't there
abbrev pub NamesNone : List (List Vec2) → Line → Type 0
NamesNone polygons (glue g) = ¬ (NamesSides polygons g)
NamesNone polygons line = ⊥

-- a line that has its form is wrong for this cause, behind these lines
abbrev pub IsWrong : Cause → List Line → Line → Type 0
IsWrong BadNumber before line = ¬ (HasBoundedNumbers line)
IsWrong BadField before line = IsNoField line
IsWrong BadBase before line = IsOnOrBelow line
IsWrong ManyBases before line = IsBaseLine line × (8 ≤ base_lines before)
IsWrong FewSides before line = HasFewSides line
IsWrong ManyPolygons before line = IsPolygonLine line × (256 ≤ length (polygons_in before))
IsWrong BadName before line = NamesNone (polygons_in before) line
IsWrong cause before line = ⊥

-- the cause holds of the bytes of a line behind these lines
abbrev pub HoldsOfLine : Cause → List Line → List ℕ → Type 0
HoldsOfLine BadByte before bytes = ¬ (AllByRecursion IsPrinted bytes)
HoldsOfLine BadFirst before bytes = (before ≡ []) × (bytes ≢ codes "flat 1")
HoldsOfLine BadKind before bytes = (word tail : List ℕ) × FrontOf 32 bytes word tail × ¬ (Contains (words_after before) word)
HoldsOfLine BadForm before bytes = (line : Line) → ¬ (IsLine bytes line)
HoldsOfLine cause before bytes = (line : Line) × IsLine bytes line × IsWrong cause before line

-- the rest begins with a line, and the cause holds of it
pub record HoldsOfNext (cause : Cause) (before : List Line) (rest : List ℕ) : Type 0 where
  pub bytes : List ℕ
  pub more : List ℕ
  pub wanted : IsWanted before
  pub splits : FrontOf 10 rest bytes (10 ∷ more)
  pub holds : HoldsOfLine cause before bytes

-- the cause holds behind these lines, where the rest follows
abbrev pub Holds : Cause → List Line → List ℕ → Type 0
Holds NoLine before rest = IsWanted before × (rest ≡ [])
Holds CutLine before rest = IsWanted before × (rest ≢ []) × AllByRecursion (λ byte. byte ≢ 10) rest
Holds AfterEnd before rest = ¬ (IsWanted before) × (rest ≢ [])
Holds cause before rest = HoldsOfNext cause before rest

-- no cause holds behind these lines
abbrev pub IsFree : List Line → List ℕ → Type 0
IsFree before rest = (cause : Cause) → ¬ (Holds cause before rest)

-- behind these lines further ones stand, each of them free of causes, and then the rest
abbrev pub Stand : List Line → List Line → List ℕ → Type 0
Stand before [] rest = ⊤
Stand before (line ∷ lines) rest = IsFree before (lines_then (line ∷ lines) rest) × Stand (before ++ line ∷ []) lines rest

-- the cause holds behind these lines, and no lower one does
pub record IsLeast (cause : Cause) (before : List Line) (rest : List ℕ) : Type 0 where
  pub holds : Holds cause before rest
  pub least : (other : Cause) → number_of other < number_of cause → ¬ (Holds other before rest)

-- the bytes are refused for the cause of this number in this line: all lines before it stand, and it is the least there
pub record IsRefused (bytes : List ℕ) (number line : ℕ) : Type 0 where
  pub cause : Cause
  pub before : List Line
  pub rest : List ℕ
  pub found : bytes ≡ lines_then before rest
  pub stand : Stand [] before rest
  pub least : IsLeast cause before rest
  pub number_is : number ≡ number_of cause
  pub line_is : line ≡ length before + 1
