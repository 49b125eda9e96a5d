-- What the steps from an input to a surface have made. They serve private clauses alone.
use Rattle.std.specs.Prelude.{◌≡◌, ℕ, ℤ, ◌⊎◌, Option, None, List, length}
use Rattle.std.specs.List.{Contains}
use Rattle.surface_text.specs.Spelling.{Content}
use Rattle.surface_text.specs.declared.file.Point.{Point}
use Rattle.gluing.specs.Gluings.{Gluing, IsGluing, gluing_of}
use Rattle.tri_core.specs.Triangulation.{Triangulation}
use Rattle.answer_text.specs.declared.status.Status.{Status}
use Rattle.answer_text.specs.declared.status.Status.TheVariants.{Done, File, Words, TooWide, LimitPassed, WriteFault, Memory, No}
use Rattle.answer_text.specs.declared.no_cause.NoCause.TheVariants.{Wall}
use Rattle.answer_text.specs.declared.place.Place.TheVariants as places
use Rattle.quad_field.specs.declared.formula.Formula.{Formula}
use Rattle.tri_core.specs.declared.half.Half.{Half}
use Rattle.parabola_region.specs.Instances.{IsWideInstance}
use Rattle.quad_field.specs.declared.formula.Formula.TheVariants.{F1}
use Rattle.canon_code.specs.Canonical.{canonical}
use Rattle.canon_code.specs.FrameWidth.{HasWideFrame}
use Rattle.class_node.specs.Reached.{IsReachedCode}
use Rattle.path_walk.specs.Walks.{IsEnd, IsWithoutWall, IsWideOnWalk}
use Rattle.answer_text.specs.Statuses.{HasBasePoint}
use Rattle.answer_text.specs.Lines.{status_line}
use Rattle.command_words.specs.declared.command.Command.{Command}
use Rattle.veech_cli.specs.SurfaceFiles.{IsAccepted, IsTriangulationOf, IsRefused}
use Rattle.report_text.specs.declared.report.Report.{Report}
use Rattle.veech_cli.specs.Classes.{AreClassesWithin, MoreAreReachedCodes, IsWideAtClass}
use Rattle.veech_cli.specs.Groups.{AreMatricesOf, IsWideInMatrices}
use Rattle.veech_cli.specs.Owed.{Owes}

-- the file has this field and these base points, and its polygons are glued so
abbrev pub IsGluedAs : Content → ℕ → List Point → Gluing → Type 0
IsGluedAs file d bases gluing = (d ≡ file.field) × (bases ≡ file.bases) × (gluing ≡ gluing_of file) × IsGluing (gluing_of file)

-- the file has these base points, and this is its triangulation
abbrev pub IsSurfaceOf : Content → List Point → Triangulation → Type 0
IsSurfaceOf file bases tri = (bases ≡ file.bases) × (tri.field ≡ file.field) × IsTriangulationOf file tri.halves

-- the input is accepted as a file with these base points and this triangulation
abbrev pub IsTriangulatedFrom : List ℕ → List Point → Triangulation → Type 0
IsTriangulatedFrom input bases tri = (file : Content) × IsAccepted input file × IsSurfaceOf file bases tri

-- the status says that the input is refused as a surface file, or that memory ran out
abbrev pub RefusesFile : List ℕ → Status → Type 0
RefusesFile input status = ((cause : ℕ) × (line : ℕ) × IsRefused input cause line × (status ≡ File cause line)) ⊎ (status ≡ Memory)

-- a status in place of output: it isn't Done, Words or WriteFault, and a point that it names is a base point
pub record IsRefusal (status : Status) : Type 0 where
  pub not_done : ¬ (status ≡ Done)
  pub not_words : ¬ (status ≡ Words)
  pub not_write_fault : ¬ (status ≡ WriteFault)
  pub point : HasBasePoint status

-- the status is owed to the input with its line, or memory ran out
abbrev pub IsRefusalOf : Command → List ℕ → Status → Type 0
IsRefusalOf command input status = IsRefusal status × (Owes command input status (status_line status) ⊎ (status ≡ Memory))

-- the status says that a formula is wide at an instance at the triangulation, or that memory ran out
abbrev pub RefusesRegion : ℕ → List Half → Status → Type 0
RefusesRegion d halves status = ((formula : Formula) × IsWideInstance d halves formula × (status ≡ TooWide formula places.Base)) ⊎ (status ≡ Memory)

-- the status says that a walk has no wall for a choice, that a formula is wide on it or F1 at a start of its end, or that memory ran out
abbrev pub RefusesWalk : ℕ → List Half → List ℕ → Status → Type 0
RefusesWalk d halves choices status =
    ((place : ℕ) × IsWithoutWall d halves choices place × (status ≡ No (Wall place)))
    ⊎ ((formula : Formula) × (place : ℕ) × IsWideOnWalk d halves choices formula place × (status ≡ TooWide formula (places.Walk place)))
    ⊎ ((end : List Half) × IsEnd d halves choices end × HasWideFrame d end × (status ≡ TooWide F1 (places.Walk (length choices))))
    ⊎ (status ≡ Memory)

-- the status says that F1 is wide at a start of the base, or that memory ran out
abbrev pub RefusesRoot : ℕ → List Half → Status → Type 0
RefusesRoot d halves status = (HasWideFrame d halves × (status ≡ TooWide F1 places.Base)) ⊎ (status ≡ Memory)

-- the status says that a formula is wide at a reached class or at a wall of it, that more classes are reached than so many, or that memory ran out
abbrev pub RefusesClasses : ℕ → List Half → ℕ → Status → Type 0
RefusesClasses d halves limit status =
    ((formula : Formula) × (code : List ℤ) × (wall : Option ℕ) × IsReachedCode d halves code × IsWideAtClass d code wall formula × (status ≡ TooWide formula (places.Class code wall)))
    ⊎ (MoreAreReachedCodes d halves limit × (status ≡ LimitPassed limit))
    ⊎ (status ≡ Memory)

-- the status says that F1 is wide at a start of one of these classes, or that memory ran out
abbrev pub RefusesTurns : ℕ → List (List ℤ) → Status → Type 0
RefusesTurns d codes status =
    ((code : List ℤ) × Contains codes code × HasWideFrame d (canonical d code) × (status ≡ TooWide F1 (places.Class code None))) ⊎ (status ≡ Memory)

-- the status says that F1 is wide at a start of this class, or that memory ran out
abbrev pub RefusesTurnsOf : ℕ → List ℤ → Status → Type 0
RefusesTurnsOf d code status = (HasWideFrame d (canonical d code) × (status ≡ TooWide F1 (places.Class code None))) ⊎ (status ≡ Memory)

-- the status says that a formula is wide in the matrices, or that memory ran out
abbrev pub RefusesMatrices : ℕ → List Half → ℕ → Status → Type 0
RefusesMatrices d halves limit status =
    ((formula : Formula) × IsWideInMatrices d halves limit formula × (status ≡ TooWide formula places.Quotient)) ⊎ (status ≡ Memory)

-- the report is that of the classes that are reached from a base at a point, at most so many, and of their matrices
pub record IsReportOf (d limit : ℕ) (at : Point) (base : List Half) (report : Report) : Type 0 where
  pub field : report.field ≡ d
  pub point : report.point ≡ at
  pub classes : AreClassesWithin d base limit report.codes.items
  pub matrices : AreMatricesOf d base report.codes.items report.mats.items

-- the status says one of these
abbrev pub RefusesPlain : ℕ → List Half → ℕ → Status → Type 0
RefusesPlain d halves limit status = RefusesRoot d halves status ⊎ RefusesClasses d halves limit status ⊎ RefusesMatrices d halves limit status
