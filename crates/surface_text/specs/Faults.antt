-- For private contracts alone: what a single line is refused for.
use Rattle.std.specs.Prelude.{◌≡◌, ℕ, ◌≤◌, ◌<◌, Bool, true, false, List, [], ◌∷◌, ◌++◌, length, codes, ⊤}
use Rattle.std.specs.List.{AllByRecursion}
use Rattle.quad_field.specs.FieldNumber.{IsFieldNumber}
use Rattle.plane.specs.declared.vec2.Vec2.{Vec2}
use Rattle.plane.specs.Spelling.{natural_text}
use Rattle.surface_text.specs.declared.cause.Cause.{Cause}
use Rattle.surface_text.specs.declared.cause.Cause.TheVariants.{BadForm, BadNumber, BadField, FewSides, ManyPolygons, BadName}
use Rattle.surface_text.specs.declared.file.Glue.{Glue}
use Rattle.surface_text.specs.declared.lines.Kind.{Kind}
use Rattle.surface_text.specs.declared.lines.Kind.TheVariants as kinds
use Rattle.surface_text.specs.declared.sides.LineFault.{LineFault}
use Rattle.surface_text.specs.declared.sides.LineFault.TheVariants as faults
use Rattle.surface_text.specs.Spelling.{Line, glue_text}
use Rattle.surface_text.specs.Limits.{IsBoundedVector, NamesSides}
use Rattle.surface_text.specs.Causes.{number_of, HoldsOfLine}
use Rattle.surface_text.specs.Readings.{IsTheOne, IsOneBeyond}
use Rattle.surface_text.specs.Sides.{AreSides}

-- the cause holds of the bytes of a line behind these lines, and no lower cause does
pub record IsLeastOfLine (cause : Cause) (before : List Line) (bytes : List ℕ) : Type 0 where
  pub holds : HoldsOfLine cause before bytes
  pub least : (other : Cause) → number_of other < number_of cause → ¬ (HoldsOfLine other before bytes)

-- a refusal of a line names the least cause that holds of its bytes; want of memory says nothing
abbrev pub IsBodyRefused : List Line → List ℕ → LineFault → Type 0
IsBodyRefused before bytes (faults.Bad cause) = IsLeastOfLine cause before bytes
IsBodyRefused before bytes faults.Memory = ⊤

-- what follows the word of a field line is this number
abbrev pub IsTailNumber : List ℕ → ℕ → Type 0
IsTailNumber tail d = tail ≡ codes " " ++ natural_text d

-- a field line with this tail is refused for this cause
abbrev pub IsFieldBad : List ℕ → Cause → Type 0
IsFieldBad tail BadForm = (d : ℕ) → ¬ (IsTailNumber tail d)
IsFieldBad tail BadField = (d : ℕ) × IsTailNumber tail d × ¬ (IsFieldNumber d)
IsFieldBad tail cause = ⊥

-- the tail spells these sides and no others, and they are bounded
abbrev pub AreTheSides : List ℕ → List Vec2 → Type 0
AreTheSides tail sides = IsTheOne (AreSides tail) (AllByRecursion IsBoundedVector) sides

-- a polygon line with this tail, behind so many polygon lines, is refused for this cause
abbrev pub IsPolygonBad : List ℕ → ℕ → Cause → Type 0
IsPolygonBad tail polygons BadForm = (sides : List Vec2) → ¬ (AreSides tail sides)
IsPolygonBad tail polygons BadNumber = IsOneBeyond (AreSides tail) (AllByRecursion IsBoundedVector)
IsPolygonBad tail polygons FewSides = (sides : List Vec2) × AreTheSides tail sides × (length sides < 3)
IsPolygonBad tail polygons ManyPolygons = (sides : List Vec2) × AreTheSides tail sides × (3 ≤ length sides) × (256 ≤ polygons)
IsPolygonBad tail polygons cause = ⊥

-- a refusal of a polygon line names its cause; want of memory says nothing
abbrev pub IsPolygonRefused : List ℕ → ℕ → LineFault → Type 0
IsPolygonRefused tail polygons (faults.Bad cause) = IsPolygonBad tail polygons cause
IsPolygonRefused tail polygons faults.Memory = ⊤

-- what follows the word of a glue line names these sides
abbrev pub IsTailGlue : List ℕ → Glue → Type 0
IsTailGlue tail g = tail ≡ codes " " ++ glue_text g

-- all four numbers of a glue line are bounded
abbrev pub IsBoundedGlue : Glue → Type 0
IsBoundedGlue g = (g.p1 ≤ 1000000000) × (g.e1 ≤ 1000000000) × (g.p2 ≤ 1000000000) × (g.e2 ≤ 1000000000)

-- a glue line with this tail, behind these polygons, is refused for this cause
abbrev pub IsGlueBad : List ℕ → List (List Vec2) → Cause → Type 0
IsGlueBad tail polygons BadForm = (g : Glue) → ¬ (IsTailGlue tail g)
IsGlueBad tail polygons BadName = (g : Glue) × IsTailGlue tail g × ¬ (NamesSides polygons g)
IsGlueBad tail polygons cause = ⊥

-- the word of a kind of line
abbrev pub word_of_kind : Kind → List ℕ
word_of_kind kinds.Base = codes "base"
word_of_kind kinds.Polygon = codes "polygon"
word_of_kind kinds.Glue = codes "glue"
word_of_kind kinds.End = codes "end"

-- the words that may stand on a line behind the field line, by whether no polygon line and no glue line stands before it
abbrev pub words_by : Bool → Bool → List (List ℕ)
words_by true glueless = codes "base" ∷ codes "polygon" ∷ []
words_by false true = codes "polygon" ∷ codes "glue" ∷ codes "end" ∷ []
words_by false false = codes "glue" ∷ codes "end" ∷ []

-- a line of this kind may stand there, by the same two answers
abbrev pub IsOpen : Bool → Bool → Kind → Type 0
IsOpen bare glueless kinds.Base = bare ≡ true
IsOpen bare glueless kinds.Polygon = glueless ≡ true
IsOpen bare glueless kinds.Glue = bare ≡ false
IsOpen bare glueless kinds.End = bare ≡ false
