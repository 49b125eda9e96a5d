-- What a command owes an input: a status, and the text that is written with it. Every other answer of a run is a failure of an end,
-- want of memory, or a refusal of the words.
use Rattle.std.specs.Prelude.{◌≡◌, ◌↔◌, ℕ, ◌<◌, ℤ, ◌⊎◌, ⊤, Bool, false, IsTrue, Option, List, length}
use Rattle.surface_text.specs.Spelling.{Content, text as file_text}
use Rattle.surface_text.specs.declared.file.Point.{Point}
use Rattle.plane.specs.Matrices.{FieldMatrix}
use Rattle.tri_core.specs.declared.half.Half.{Half}
use Rattle.cone_points.specs.Angles.{AreTurns, IsGenus}
use Rattle.delaunay_flip.specs.Bases.{Ending, EndsListed}
use Rattle.answer_text.specs.declared.status.Status.{Status}
use Rattle.answer_text.specs.declared.status.Status.TheVariants.{Done, File, TooWide, LimitPassed, No}
use Rattle.answer_text.specs.declared.no_cause.NoCause.TheVariants.{Wall}
use Rattle.answer_text.specs.declared.place.Place.TheVariants as places
use Rattle.answer_text.specs.RegionTexts.{walls_and_corners_text}
use Rattle.answer_text.specs.WalkTexts.{walk_text}
use Rattle.quad_field.specs.declared.formula.Formula.{Formula}
use Rattle.quad_field.specs.declared.formula.Formula.TheVariants.{F1, F12}
use Rattle.tri_core.specs.Images.{AreTranslationEqual}
use Rattle.canon_code.specs.Codes.{IsCode}
use Rattle.canon_code.specs.FrameWidth.{HasWideFrame}
use Rattle.class_node.specs.Reached.{IsReachedCode}
use Rattle.path_walk.specs.Walks.{IsEnd, IsWithoutWall, IsWideOnWalk}
use Rattle.parabola_region.specs.WallLists.{PlainWall, IsWallList}
use Rattle.parabola_region.specs.Corners.{IsCornerList}
use Rattle.parabola_region.specs.declared.corner.Corner.{Corner}
use Rattle.parabola_region.specs.Instances.{IsWideInstance}
use Rattle.answer_text.specs.Lines.{status_line}
use Rattle.answer_text.specs.CheckTexts.{counts_text}
use Rattle.command_words.specs.declared.command.Command.{Command}
use Rattle.command_words.specs.declared.command.Command.TheVariants.{Check, Base, Region, Path, Plain, Group, Make, Trial}
use Rattle.family_gen.specs.Families.{family_of}
use Rattle.veech_cli.specs.SurfaceFiles.{IsAccepted, IsTriangulationOf, IsRefused}
use Rattle.veech_cli.specs.Endings.{points_of, status_of_ending, text_of_ending}
use Rattle.veech_cli.specs.Classes.{AreClassesWithin, MoreAreReachedCodes, IsWideAtClass}
use Rattle.veech_cli.specs.Groups.{AreMatricesOf, IsWideInMatrices}
use Rattle.veech_cli.specs.Writings.{Writing, trial_text, plain_text}

-- what `check` answers for a triangulation: Done, with its counts
abbrev pub IsCheckAnswer : ℕ → List Half → Status → List ℕ → Type 0
IsCheckAnswer d halves status text =
    (turns : List ℕ) × (genus : ℕ) × AreTurns d halves turns × IsGenus halves genus × (status ≡ Done) × (text ≡ counts_text halves turns genus)

-- what `region` answers for a base: Done, with its walls and corners; or that a formula is wide at an instance there
abbrev pub IsRegionAnswer : ℕ → List Half → Status → List ℕ → Type 0
IsRegionAnswer d halves status text =
    ((walls : List PlainWall) × (corners : List Corner) × IsWallList d halves walls × IsCornerList d halves walls corners
    × (status ≡ Done) × (text ≡ walls_and_corners_text walls corners))
    ⊎ ((formula : Formula) × IsWideInstance d halves formula × (status ≡ TooWide formula places.Base) × (text ≡ status_line (TooWide formula places.Base)))

-- what `path` answers for a base: Done, with the length of the walk, whether its end is translation-equal to the base, and the code of the
-- end's class; that there is no wall for a choice; that a formula is wide on the walk; or that F1 is wide at a start of the end
abbrev pub IsPathAnswer : ℕ → List ℕ → List Half → Status → List ℕ → Type 0
IsPathAnswer d choices halves status text =
    ((end : List Half) × (same : Bool) × (code : List ℤ) × IsEnd d halves choices end × (IsTrue same ↔ AreTranslationEqual d halves end) × IsCode d end code
    × (status ≡ Done) × (text ≡ walk_text (length choices) same code))
    ⊎ ((place : ℕ) × IsWithoutWall d halves choices place × (status ≡ No (Wall place)) × (text ≡ status_line (No (Wall place))))
    ⊎ ((formula : Formula) × (place : ℕ) × IsWideOnWalk d halves choices formula place
    × (status ≡ TooWide formula (places.Walk place)) × (text ≡ status_line (TooWide formula (places.Walk place))))
    ⊎ ((end : List Half) × IsEnd d halves choices end × HasWideFrame d end
    × (status ≡ TooWide F1 (places.Walk (length choices))) × (text ≡ status_line (TooWide F1 (places.Walk (length choices)))))

-- what is answered for the classes and the matrices of a base at a point, to be written so: Done, with the text of the classes that are reached from it and
-- of their matrices; that F1 is wide at a start of it; that a formula is wide at a reached class, or at a wall of it; that one is wide in the matrices; or
-- that more classes are reached than the limit
abbrev pub IsPlainAnswer : Writing → ℕ → ℕ → Point → List Half → Status → List ℕ → Type 0
IsPlainAnswer writing d limit at halves status text =
    ((codes : List (List ℤ)) × (matrices : List FieldMatrix) × AreClassesWithin d halves limit codes × AreMatricesOf d halves codes matrices
    × (status ≡ Done) × (text ≡ writing d at codes matrices))
    ⊎ (HasWideFrame d halves × (status ≡ TooWide F1 places.Base) × (text ≡ status_line (TooWide F1 places.Base)))
    ⊎ ((formula : Formula) × (code : List ℤ) × (wall : Option ℕ) × IsReachedCode d halves code × IsWideAtClass d code wall formula
    × (status ≡ TooWide formula (places.Class code wall)) × (text ≡ status_line (TooWide formula (places.Class code wall))))
    ⊎ ((formula : Formula) × IsWideInMatrices d halves limit formula × (status ≡ TooWide formula places.Quotient) × (text ≡ status_line (TooWide formula places.Quotient)))
    ⊎ (MoreAreReachedCodes d halves limit × (status ≡ LimitPassed limit) × (text ≡ status_line (LimitPassed limit)))

-- what a command that wants a base answers for an ending: for a strict one what it answers for the base at its point, and else what `base` does
abbrev pub AnswersAt : (Point → List Half → Status → List ℕ → Type 0) → Point → Ending → Status → List ℕ → Type 0
AnswersAt P at (Ending.strict later n) status text = P at later status text
AnswersAt P at other status text = (status ≡ status_of_ending at other) × (text ≡ text_of_ending at other)

-- how the flipping ends at the file's points, and what such a command answers then
abbrev pub AnswersFromBase : ℕ → (Point → List Half → Status → List ℕ → Type 0) → Content → List Half → Status → List ℕ → Type 0
AnswersFromBase flips P file halves status text =
    (at : Point) × (ending : Ending) × EndsListed file.field halves (points_of file) flips at ending × AnswersAt P at ending status text

-- what `base` answers for a file and its triangulation: how the flipping ends at the file's points
abbrev pub IsBaseAnswer : ℕ → Content → List Half → Status → List ℕ → Type 0
IsBaseAnswer flips file halves status text =
    (at : Point) × (ending : Ending) × EndsListed file.field halves (points_of file) flips at ending
    × (status ≡ status_of_ending at ending) × (text ≡ text_of_ending at ending)

-- what is answered for the triangulation of a file
abbrev pub OnTriangulation : (Content → List Half → Status → List ℕ → Type 0) → Content → Status → List ℕ → Type 0
OnTriangulation P file status text = (halves : List Half) × IsTriangulationOf file halves × P file halves status text

-- what a command answers for the file that it works on: a status and a text
abbrev pub Answers : Command → Content → Status → List ℕ → Type 0
-- `check`: Done, with the counts of the file's triangulation
Answers Check file status text = OnTriangulation (λ file. IsCheckAnswer file.field) file status text
-- `base`: how the flipping ends at the file's points
Answers (Base flips) file status text = OnTriangulation (IsBaseAnswer flips) file status text
-- `region`: the walls and corners of the base's region
Answers (Region flips) file status text = OnTriangulation (AnswersFromBase flips (λ at. IsRegionAnswer file.field)) file status text
-- `path`: the end of the walk from the base
Answers (Path flips choices) file status text = OnTriangulation (AnswersFromBase flips (λ at. IsPathAnswer file.field choices)) file status text
-- `plain`: the classes that are reached from the base and their matrices, as a report or a summary
Answers (Plain flips limit summary) file status text = OnTriangulation (AnswersFromBase flips (IsPlainAnswer (plain_text summary) file.field limit)) file status text
-- `group`: what `plain` answers with the report, whatever the number of workers
Answers (Group flips limit workers) file status text = OnTriangulation (AnswersFromBase flips (IsPlainAnswer (plain_text false) file.field limit)) file status text
-- `make`: Done, with the text of the file
Answers (Make number) file status text = (status ≡ Done) × (text ≡ file_text file)
-- `trial`: what `plain` answers, with its number and the summary
Answers (Trial flips limit number) file status text = OnTriangulation (AnswersFromBase flips (IsPlainAnswer (trial_text number) file.field limit)) file status text

-- a command reads the input, but for `make` and `trial`
abbrev pub ReadsInput : Command → Type 0
ReadsInput (Make number) = ⊥
ReadsInput (Trial flips limit number) = ⊥
ReadsInput command = ⊤

-- the file that a command works on: the one that the input is accepted as; for `make` and `trial` that of the number, whatever the input
abbrev pub WorksOn : Command → List ℕ → Content → Type 0
WorksOn (Make number) input file = (number < 200) × (file ≡ family_of number)
WorksOn (Trial flips limit number) input file = (number < 200) × (file ≡ family_of number)
WorksOn command input file = IsAccepted input file

-- the refusal of an input as a surface file, with its line, for a command that reads it
abbrev pub IsFileRefusal : Command → List ℕ → Status → List ℕ → Type 0
IsFileRefusal command input status text =
    (cause : ℕ) × (line : ℕ) × ReadsInput command × IsRefused input cause line × (status ≡ File cause line) × (text ≡ status_line (File cause line))

-- what a command answers for the file that it works on
abbrev pub IsFileAnswer : Command → List ℕ → Status → List ℕ → Type 0
IsFileAnswer command input status text = (file : Content) × WorksOn command input file × Answers command file status text

-- a command owes an input this status with this text: the refusal of the input, or what it answers for the file that it works on
abbrev pub Owes : Command → List ℕ → Status → List ℕ → Type 0
Owes command input status text = IsFileRefusal command input status text ⊎ IsFileAnswer command input status text

-- a status that may be answered where it is owed, but needn't be: a wide formula that the answer may do without. A new diagonal that is
-- wide on a walk (F12) is none: there the walk ends
abbrev pub IsOptional : Status → Type 0
IsOptional status =
    ((formula : Formula) × (status ≡ TooWide formula places.Base))
    ⊎ ((formula : Formula) × (code : List ℤ) × (wall : Option ℕ) × (status ≡ TooWide formula (places.Class code wall)))
    ⊎ ((formula : Formula) × (status ≡ TooWide formula places.Quotient))
    ⊎ ((formula : Formula) × (place : ℕ) × ¬ (formula ≡ F12) × (status ≡ TooWide formula (places.Walk place)))
