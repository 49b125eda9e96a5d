-- Why a text is no report: the first bad line.
use Rattle.std.specs.Prelude.{◌≡◌, ◌≢◌, ℕ, ◌+◌, List, [], ◌∷◌, ◌++◌, length, codes, ⊤}
use Rattle.std.specs.List.{AllByRecursion}
use Rattle.canon_code.specs.declared.fault.CodeFault.{CodeFault}
use Rattle.canon_code.specs.declared.fault.CodeFault.TheVariants.{Memory}
use Rattle.canon_code.specs.Refusals.{IsCause, IsFree as IsFreeOfCode}
use Rattle.report_text.specs.declared.fault.ReportFault.{ReportFault}
use Rattle.report_text.specs.declared.fault.ReportFault.TheVariants as faults
use Rattle.report_text.specs.Lines.{Line, line_text, lines_then}
use Rattle.report_text.specs.Following.{SoFar, MayFollow, with_lines, AllFollow, WantsClass}

-- a class line stands in its place, and what follows its word isn't read as a code, for this cause
pub record IsCodeBad (so : SoFar) (rest : List ℕ) (fault : CodeFault) : Type 0 where
  pub number : ℕ
  pub text : List ℕ
  pub more : List ℕ
  pub wanted : WantsClass so number
  pub found : rest ≡ codes "class " ++ text ++ 10 ∷ more
  pub lacks : AllByRecursion (λ byte. byte ≢ 10) text
  pub cause : IsCause number text fault

-- the next line is bad otherwise: no line that may follow stands there, though the report isn't whole or bytes are left,
-- and no class line whose text is refused, but for width or want of memory
pub record IsBad (so : SoFar) (rest : List ℕ) : Type 0 where
  pub none : (line : Line) (more : List ℕ) → rest ≡ line_text line ++ 10 ∷ more → ¬ (MayFollow so line)
  pub left : so ≡ SoFar.whole → rest ≢ []
  pub other : (fault : CodeFault) → IsCodeBad so rest fault → IsFreeOfCode fault

-- lines stand that may each follow the lines before it, behind so many that say this; so it is of what they say and of the rest, in the line of this number
pub record IsAt (so : SoFar) (passed : ℕ) (bytes : List ℕ) (line : ℕ) (Is : SoFar → List ℕ → Type 0) : Type 0 where
  pub before : List Line
  pub rest : List ℕ
  pub found : bytes ≡ lines_then before rest
  pub follow : AllFollow so before
  pub is : Is (with_lines so before) rest
  pub number : line ≡ passed + length before + 1

-- the refusal of what stands behind so many lines that say this: its line is the first bad one; want of memory says nothing
abbrev pub IsFaultBehind : SoFar → ℕ → List ℕ → ReportFault → Type 0
IsFaultBehind so passed bytes (faults.Bad line) = IsAt so passed bytes line IsBad
IsFaultBehind so passed bytes (faults.Code line fault) = IsAt so passed bytes line (λ now rest. IsCodeBad now rest fault) × (fault ≢ Memory)
IsFaultBehind so passed bytes faults.Memory = ⊤

-- the refusal of a text
abbrev pub IsFaultOf : List ℕ → ReportFault → Type 0
IsFaultOf bytes fault = IsFaultBehind SoFar.nothing 0 bytes fault

-- a refusal for width or want of memory, which may stand in place of a later one, of another of its line, or of a report
abbrev pub IsFree : ReportFault → Type 0
IsFree (faults.Bad line) = ⊥
IsFree (faults.Code line fault) = IsFreeOfCode fault
IsFree faults.Memory = ⊤
