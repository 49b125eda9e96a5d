-- No text is neither that of a report within the limits nor refused.
use Rattle.std.proofs.Common.{◌≡◌, ℕ, zero, suc, ◌+◌, ◌≤◌, List, [], ◌∷◌, ◌++◌, map, length, refl, ap, sym, ◌∙◌, subst, arith}
use Rattle.std.specs.Prelude.{ℤ}
use Rattle.std.proofs.lemmas.List.{length-append}
use Rattle.plane.specs.Matrices.{FieldMatrix}
use Rattle.surface_text.specs.declared.file.Point.{Point}
use Rattle.canon_code.specs.declared.fault.CodeFault.{CodeFault}
use Rattle.canon_code.specs.declared.fault.CodeFault.TheVariants as code_faults
use Rattle.canon_code.specs.Refusals.{IsFree as IsFreeOfCode}
use Rattle.report_text.specs.declared.fault.ReportFault.{ReportFault}
use Rattle.report_text.specs.declared.fault.ReportFault.TheVariants as faults
use Rattle.report_text.specs.Reports.{report_text}
use Rattle.report_text.specs.Lines.{Line, line_text, lines_then, tail_lines, report_lines}
use Rattle.report_text.specs.Lines.Line.{version, field, base, class_count, class, matrix_count, matrix, end}
use Rattle.report_text.specs.Limits.{IsReport}
use Rattle.report_text.specs.Following.{SoFar, MayFollow, with_lines, AllFollow}
use Rattle.report_text.specs.Refusals.{IsCodeBad, IsBad, IsFaultOf, IsFree}
use Rattle.report_text.proofs.Follows.{lines_append, follow_more, limits_of}
use Rattle.report_text.proofs.ReportTexts.{text_of_lines}

-- ---- lines after which the report is whole are those of a report
ended : (lines : List Line) → AllFollow SoFar.whole lines → lines ≡ []
ended [] all = refl
ended (line ∷ lines) all = absurd (none line all.0)
  where
    none : (line : Line) → ¬ (MayFollow SoFar.whole line)
    none version may = may
    none (field d) may = may
    none (base at) may = may
    none (class_count n) may = may
    none (class code) may = may
    none (matrix_count n) may = may
    none (matrix m) may = may
    none end may = may

-- the lines of matrices, as many as are wanted, and the end line
record AreMatrices (m come : ℕ) (lines : List Line) : Type 0 where
  more : List FieldMatrix
  lines_are : lines ≡ map matrix more ++ end ∷ []
  enough : come + length more ≡ m

matrices_whole : (m come : ℕ) (lines : List Line) → AllFollow (SoFar.matrices m come) lines → with_lines (SoFar.matrices m come) lines ≡ SoFar.whole → AreMatrices m come lines
matrices_whole m come [] all whole = absurd (cc)
matrices_whole m come (matrix a ∷ lines) all whole =
    let rest = matrices_whole m (come + 1) lines all.1 whole in
    let enough = rest.enough in
    record { more = a ∷ rest.more; lines_are = ap (λ (l : List Line). matrix a ∷ l) rest.lines_are; enough = omega (arith, enough) }
matrices_whole m come (end ∷ lines) all whole =
    let same = all.0 in record { more = []; lines_are = ap (λ (l : List Line). end ∷ l) (ended lines all.1); enough = omega (arith, same) }
matrices_whole m come (version ∷ lines) all whole = absurd all.0
matrices_whole m come (field d ∷ lines) all whole = absurd all.0
matrices_whole m come (base at ∷ lines) all whole = absurd all.0
matrices_whole m come (class_count n ∷ lines) all whole = absurd all.0
matrices_whole m come (class code ∷ lines) all whole = absurd all.0
matrices_whole m come (matrix_count n ∷ lines) all whole = absurd all.0

-- the lines of classes, as many as are wanted, and those behind them
record AreClasses (n : ℕ) (come : List (List ℤ)) (lines : List Line) : Type 0 where
  more : List (List ℤ)
  matrices : List FieldMatrix
  lines_are : lines ≡ map class more ++ tail_lines matrices
  enough : length come + length more ≡ n

classes_whole : (d n : ℕ) (come : List (List ℤ)) (lines : List Line) → AllFollow (SoFar.classes d n come) lines → with_lines (SoFar.classes d n come) lines ≡ SoFar.whole → AreClasses n come lines
classes_whole d n come [] all whole = absurd (cc)
classes_whole d n come (class code ∷ lines) all whole =
    let rest = classes_whole d n (come ++ code ∷ []) lines all.1 whole in
    let enough = rest.enough in
    let one = length-append come (code ∷ []) in
    record { more = code ∷ rest.more; matrices = rest.matrices; lines_are = ap (λ (l : List Line). class code ∷ l) rest.lines_are; enough = omega (arith, enough, one) }
classes_whole d n come (matrix_count m ∷ lines) all whole =
    let rest = matrices_whole m 0 lines all.1 whole in
    let enough = rest.enough in
    let count : m ≡ length rest.more = omega (arith, enough) in
    let same = all.0.0 in
    record {
      more = [];
      matrices = rest.more;
      lines_are = ap (λ (l : List Line). matrix_count m ∷ l) rest.lines_are ∙ ap (λ (k : ℕ). matrix_count k ∷ (map matrix rest.more ++ end ∷ [])) count;
      enough = omega (arith, same);
    }
classes_whole d n come (version ∷ lines) all whole = absurd all.0
classes_whole d n come (field k ∷ lines) all whole = absurd all.0
classes_whole d n come (base at ∷ lines) all whole = absurd all.0
classes_whole d n come (class_count k ∷ lines) all whole = absurd all.0
classes_whole d n come (matrix a ∷ lines) all whole = absurd all.0
classes_whole d n come (end ∷ lines) all whole = absurd all.0

record AreReport (lines : List Line) : Type 0 where
  number : ℕ
  point : Point
  codes : List (List ℤ)
  mats : List FieldMatrix
  lines_are : lines ≡ report_lines number point codes mats

head_whole : (d : ℕ) (at : Point) (n : ℕ) (lines : List Line) → AreClasses n [] lines → AreReport (version ∷ field d ∷ base at ∷ class_count n ∷ lines)
head_whole d at n lines are =
    let enough = are.enough in
    let count : n ≡ length are.more = omega (arith, enough) in
    record {
      number = d;
      point = at;
      codes = are.more;
      mats = are.matrices;
      lines_are =
          ap (λ (l : List Line). version ∷ field d ∷ base at ∷ class_count n ∷ l) are.lines_are
          ∙ ap (λ (k : ℕ). version ∷ field d ∷ base at ∷ class_count k ∷ (map class are.more ++ tail_lines are.matrices)) count;
    }

based_whole : (d : ℕ) (at : Point) (lines : List Line) → AllFollow (SoFar.based d) lines → with_lines (SoFar.based d) lines ≡ SoFar.whole → AreReport (version ∷ field d ∷ base at ∷ lines)
based_whole d at [] all whole = absurd (cc)
based_whole d at (class_count n ∷ lines) all whole = head_whole d at n lines (classes_whole d n [] lines all.1 whole)
based_whole d at (version ∷ lines) all whole = absurd all.0
based_whole d at (field k ∷ lines) all whole = absurd all.0
based_whole d at (base to ∷ lines) all whole = absurd all.0
based_whole d at (class code ∷ lines) all whole = absurd all.0
based_whole d at (matrix_count k ∷ lines) all whole = absurd all.0
based_whole d at (matrix a ∷ lines) all whole = absurd all.0
based_whole d at (end ∷ lines) all whole = absurd all.0

over_whole : (d : ℕ) (lines : List Line) → AllFollow (SoFar.over d) lines → with_lines (SoFar.over d) lines ≡ SoFar.whole → AreReport (version ∷ field d ∷ lines)
over_whole d [] all whole = absurd (cc)
over_whole d (base at ∷ lines) all whole = based_whole d at lines all.1 whole
over_whole d (version ∷ lines) all whole = absurd all.0
over_whole d (field k ∷ lines) all whole = absurd all.0
over_whole d (class_count k ∷ lines) all whole = absurd all.0
over_whole d (class code ∷ lines) all whole = absurd all.0
over_whole d (matrix_count k ∷ lines) all whole = absurd all.0
over_whole d (matrix a ∷ lines) all whole = absurd all.0
over_whole d (end ∷ lines) all whole = absurd all.0

begun_whole : (lines : List Line) → AllFollow SoFar.begun lines → with_lines SoFar.begun lines ≡ SoFar.whole → AreReport (version ∷ lines)
begun_whole [] all whole = absurd (cc)
begun_whole (field d ∷ lines) all whole = over_whole d lines all.1 whole
begun_whole (version ∷ lines) all whole = absurd all.0
begun_whole (base at ∷ lines) all whole = absurd all.0
begun_whole (class_count k ∷ lines) all whole = absurd all.0
begun_whole (class code ∷ lines) all whole = absurd all.0
begun_whole (matrix_count k ∷ lines) all whole = absurd all.0
begun_whole (matrix a ∷ lines) all whole = absurd all.0
begun_whole (end ∷ lines) all whole = absurd all.0

nothing_whole : (lines : List Line) → AllFollow SoFar.nothing lines → with_lines SoFar.nothing lines ≡ SoFar.whole → AreReport lines
nothing_whole [] all whole = absurd (cc)
nothing_whole (version ∷ lines) all whole = begun_whole lines all.1 whole
nothing_whole (field d ∷ lines) all whole = absurd all.0
nothing_whole (base at ∷ lines) all whole = absurd all.0
nothing_whole (class_count k ∷ lines) all whole = absurd all.0
nothing_whole (class code ∷ lines) all whole = absurd all.0
nothing_whole (matrix_count k ∷ lines) all whole = absurd all.0
nothing_whole (matrix a ∷ lines) all whole = absurd all.0
nothing_whole (end ∷ lines) all whole = absurd all.0

-- a line takes bytes
shorter : (rest more bytes : List ℕ) → rest ≡ bytes ++ 10 ∷ more → suc (length more) ≤ length rest
shorter rest more bytes e =
    let long : length rest ≡ length (bytes ++ 10 ∷ more) = ap length e in
    let parts = length-append bytes (10 ∷ more) in omega (arith, long, parts)

module _ (bytes : List ℕ)
    (no_report : (d : ℕ) (at : Point) (codes : List (List ℤ)) (mats : List FieldMatrix) → bytes ≡ report_text d at codes mats → ¬ (IsReport d at codes mats))
    (free : (fault : ReportFault) → IsFaultOf bytes fault → IsFree fault) where
  whole_none : (before : List Line) → bytes ≡ lines_then before [] → AllFollow SoFar.nothing before → ¬ (with_lines SoFar.nothing before ≡ SoFar.whole)
  whole_none before found all whole =
      let are = nothing_whole before all whole in
      let lines = are.lines_are in
      no_report are.number are.point are.codes are.mats (found ∙ ap (λ (l : List Line). lines_then l []) lines ∙ sym (text_of_lines are.number are.point are.codes are.mats))
      (limits_of are.number are.point are.codes are.mats (subst (AllFollow SoFar.nothing) lines all))

  code_free : (before : List Line) (rest : List ℕ) → bytes ≡ lines_then before rest → AllFollow SoFar.nothing before
      → (fault : CodeFault) → IsCodeBad (with_lines SoFar.nothing before) rest fault → IsFreeOfCode fault
  code_free before rest found all code_faults.Memory is = tt
  code_free before rest found all (code_faults.Wide formula) is = tt
  code_free before rest found all code_faults.Form is =
      free (faults.Code (0 + length before + 1) code_faults.Form) (record { before = before; rest = rest; found = found; follow = all; is = is; number = refl }, λ e. absurd (cc))
  code_free before rest found all code_faults.NotCode is =
      free (faults.Code (0 + length before + 1) code_faults.NotCode) (record { before = before; rest = rest; found = found; follow = all; is = is; number = refl }, λ e. absurd (cc))

  -- where no line may follow, a text is refused or a report
  stopped : (before : List Line) (rest : List ℕ) → bytes ≡ lines_then before rest → AllFollow SoFar.nothing before
      → ((line : Line) (more : List ℕ) → rest ≡ line_text line ++ 10 ∷ more → ¬ (MayFollow (with_lines SoFar.nothing before) line)) → ⊥
  stopped before rest found all none =
      let bad : IsBad (with_lines SoFar.nothing before) rest = record {
        none = none;
        left = λ whole empty. whole_none before (found ∙ ap (lines_then before) empty) all whole;
        other = code_free before rest found all;
      } in
      free (faults.Bad (0 + length before + 1)) (record { before = before; rest = rest; found = found; follow = all; is = bad; number = refl })

  -- and lines can't follow without end
  walk : (fuel : ℕ) (before : List Line) (rest : List ℕ) → length rest ≤ fuel → bytes ≡ lines_then before rest → AllFollow SoFar.nothing before → ⊥
  walk zero before rest few found all =
      stopped before rest found all (λ line more e may. let less = shorter rest more (line_text line) e in omega (arith, less, few))
  walk (suc fuel) before rest few found all =
      stopped before rest found all
      (λ line more e may.
      let less = shorter rest more (line_text line) e in
      walk fuel (before ++ line ∷ []) more (omega (arith, less, few)) (found ∙ ap (lines_then before) e ∙ sym (lines_append before (line ∷ []) more)) (follow_more SoFar.nothing before line all may))

  pub neither : ⊥
  neither = walk (length bytes) [] bytes (omega arith) refl tt
