-- The line of each status.
use Rattle.std.specs.Prelude.{ℕ, ℤ, Option, Some, None, List, [], ◌∷◌, codes, get_or}
use Rattle.std.specs.List.{concat}
use Rattle.quad_field.specs.declared.formula.Formula.{Formula}
use Rattle.quad_field.specs.declared.formula.Formula.TheVariants.{F1, F2, F3, F4, F5, F6, F7, F8, F9, F10, F11, F12, F13}
use Rattle.plane.specs.Spelling.{natural_text}
use Rattle.surface_text.specs.Spelling.{point_text}
use Rattle.report_text.specs.Reports.{class_text}
use Rattle.answer_text.specs.declared.place.Place.{Place}
use Rattle.answer_text.specs.declared.place.Place.TheVariants.{Flips, Base, Class, Quotient, Walk}
use Rattle.answer_text.specs.declared.no_cause.NoCause.TheVariants.{Wall}
use Rattle.answer_text.specs.declared.status.Status.{Status}
use Rattle.answer_text.specs.declared.status.Status.TheVariants.{Done, Words, File, NotStrict, FlipsEnded, TooWide, LimitPassed, ReadFault, WriteFault, Memory, No}

-- the names of the causes of a refused file, by their numbers
abbrev pub cause_names : List (List ℕ)
cause_names =
    codes "TooLong" ∷ codes "NoLine" ∷ codes "CutLine" ∷ codes "BadByte" ∷ codes "BadFirst" ∷ codes "BadKind" ∷ codes "BadForm"
    ∷ codes "BadNumber" ∷ codes "BadField" ∷ codes "BadBase" ∷ codes "ManyBases" ∷ codes "FewSides" ∷ codes "ManyPolygons"
    ∷ codes "BadName" ∷ codes "AfterEnd" ∷ codes "NotClosed" ∷ codes "Flat" ∷ codes "NotConvex" ∷ codes "Twice"
    ∷ codes "NotOpposite" ∷ codes "Unpaired" ∷ codes "ManyTriangles" ∷ codes "Apart" ∷ []

-- the name of a cause
abbrev pub cause_name : ℕ → List ℕ
cause_name cause = get_or cause_names cause []

-- the name of a formula
abbrev pub formula_name : Formula → List ℕ
formula_name F1 = codes "F1"
formula_name F2 = codes "F2"
formula_name F3 = codes "F3"
formula_name F4 = codes "F4"
formula_name F5 = codes "F5"
formula_name F6 = codes "F6"
formula_name F7 = codes "F7"
formula_name F8 = codes "F8"
formula_name F9 = codes "F9"
formula_name F10 = codes "F10"
formula_name F11 = codes "F11"
formula_name F12 = codes "F12"
formula_name F13 = codes "F13"

-- a class, or a wall of it, at which a formula is wide
abbrev pub class_place_text : List ℤ → Option ℕ → List ℕ
class_place_text code None = class_text code
class_place_text code (Some wall) = concat (codes "wall " ∷ natural_text wall ∷ codes " " ∷ class_text code ∷ [])

-- the place where a formula is wide
abbrev pub place_text : Place → List ℕ
place_text (Flips flips edge) = concat (codes "flips " ∷ natural_text flips ∷ codes " edge " ∷ natural_text edge ∷ [])
place_text Base = codes "base"
place_text (Class code wall) = class_place_text code wall
place_text Quotient = codes "quotient"
place_text (Walk choice) = concat (codes "walk " ∷ natural_text choice ∷ [])

-- the one line that a status writes in place of output; `Done` and `WriteFault` have none
abbrev pub status_line : Status → List ℕ
status_line Done = []
status_line Words = codes "fault words\n"
status_line (File cause line) =
    concat (codes "fault file " ∷ natural_text cause ∷ codes " " ∷ natural_text line ∷ codes " " ∷ cause_name cause ∷ codes "\n" ∷ [])
status_line (NotStrict edge) = concat (codes "fault strict " ∷ natural_text edge ∷ codes "\n" ∷ [])
status_line (FlipsEnded point) = concat (codes "fault flips " ∷ point_text point ∷ codes "\n" ∷ [])
status_line (TooWide formula place) = concat (codes "fault wide " ∷ formula_name formula ∷ codes " " ∷ place_text place ∷ codes "\n" ∷ [])
status_line (LimitPassed limit) = concat (codes "fault limit " ∷ natural_text limit ∷ codes "\n" ∷ [])
status_line ReadFault = codes "fault read\n"
status_line WriteFault = []
status_line Memory = codes "fault memory\n"
status_line (No (Wall place)) = concat (codes "no wall " ∷ natural_text place ∷ codes "\n" ∷ [])
