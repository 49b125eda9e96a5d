-- For private contracts alone: what the next line is read as.
use Rattle.std.specs.Prelude.{◌≡◌, ◌≢◌, ℕ, ℤ, List, [], ◌∷◌, ◌++◌, length, map, codes, ⊤}
use Rattle.std.specs.List.{AllByRecursion}
use Rattle.quad_field.specs.declared.quad.Quad.{Quad}
use Rattle.quad_field.specs.Width.{PartsFit}
use Rattle.plane.specs.Matrices.{FieldMatrix, rows_of}
use Rattle.plane.specs.Spelling.{quad_text}
use Rattle.canon_code.specs.Canonical.{IsMade}
use Rattle.canon_code.specs.declared.fault.CodeFault.TheVariants.{Memory}
use Rattle.report_text.specs.declared.fault.ReportFault.{ReportFault}
use Rattle.report_text.specs.declared.fault.ReportFault.TheVariants as faults
use Rattle.report_text.specs.Lines.{Line, line_text, lines_then}
use Rattle.report_text.specs.Following.{SoFar, AllFollow}
use Rattle.report_text.specs.Refusals.{IsCodeBad, IsBad}

-- the bytes lack the stop
abbrev pub Lacks : ℕ → List ℕ → Type 0
Lacks stop bytes = AllByRecursion (λ byte. byte ≢ stop) bytes

-- the bytes before the first stop, and those behind it
pub record IsSplitAt (stop : ℕ) (bytes front behind : List ℕ) : Type 0 where
  pub found : bytes ≡ front ++ stop ∷ behind
  pub lacks : Lacks stop front

-- the text of a matrix line with these numbers and this word of its denominator
abbrev pub spaced_entries : Quad → Quad → Quad → Quad → List ℕ → List ℕ
spaced_entries a b c d word = codes "matrix " ++ (quad_text a ++ 32 ∷ (quad_text b ++ 32 ∷ (quad_text c ++ 32 ∷ (quad_text d ++ 32 ∷ word))))

-- the line has these four numbers, which fit, and this word of its denominator
pub record AreEntries (line : List ℕ) (n : List Quad) (word : List ℕ) : Type 0 where
  pub four : length n ≡ 4
  pub spelled : let m = rows_of n in line ≡ spaced_entries m.0 m.1 m.2 m.3 word
  pub fit : AllByRecursion PartsFit n

-- the rest begins with the line of this value, which keeps to its limits, and a line feed
abbrev pub IsTaken : {X : Type 0} → (X → Line) → (X → Type 0) → List ℕ → X → List ℕ → Type 0
IsTaken Of Fits rest x after = (rest ≡ line_text (Of x) ++ 10 ∷ after) × Fits x

-- it begins with no such line
abbrev pub IsNotTaken : {X : Type 0} → (X → Line) → (X → Type 0) → List ℕ → Type 0
IsNotTaken {X} Of Fits rest = (x : X) (after : List ℕ) → ¬ (IsTaken Of Fits rest x after)

-- the refusal of the next line, which has this number
abbrev pub IsNextFault : SoFar → List ℕ → ℕ → ReportFault → Type 0
IsNextFault so rest number (faults.Bad line) = (line ≡ number) × IsBad so rest
IsNextFault so rest number (faults.Code line fault) = (line ≡ number) × IsCodeBad so rest fault × (fault ≢ Memory)
IsNextFault so rest number faults.Memory = ⊤

-- the bytes begin with lines of these codes, as many as are wanted, which may follow one another
pub record AreClassesRead (d wanted : ℕ) (bytes : List ℕ) (come : List (List ℤ)) (after : List ℕ) : Type 0 where
  pub found : bytes ≡ lines_then (map Line.class come) after
  pub follow : AllFollow (SoFar.classes d wanted []) (map Line.class come)
  pub enough : length come ≡ wanted
  pub made : AllByRecursion (IsMade d) come

-- the bytes begin with lines of these matrices, as many as are wanted, which may follow one another
pub record AreMatricesRead (wanted : ℕ) (bytes : List ℕ) (matrices : List FieldMatrix) (after : List ℕ) : Type 0 where
  pub found : bytes ≡ lines_then (map Line.matrix matrices) after
  pub follow : AllFollow (SoFar.matrices wanted 0) (map Line.matrix matrices)
  pub enough : length matrices ≡ wanted
