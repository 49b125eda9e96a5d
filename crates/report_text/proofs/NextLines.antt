-- Lines read one after another.
use Rattle.std.proofs.Common.{◌≡◌, ◌≢◌, ℕ, ◌+◌, ◌<◌, List, [], ◌∷◌, ◌++◌, length, codes, refl, ap, sym, ◌∙◌, subst, arith}
use Rattle.std.specs.Prelude.{ℤ}
use Rattle.std.proofs.lemmas.List.{length-append, append_cancel_left}
use Rattle.surface_text.specs.Limits.{IsBasePoint}
use Rattle.quad_field.specs.FieldNumber.{IsFieldNumber}
use Rattle.canon_code.specs.declared.fault.CodeFault.{CodeFault}
use Rattle.canon_code.specs.declared.fault.CodeFault.TheVariants as code_faults
use Rattle.canon_code.specs.Canonical.{IsMade}
use Rattle.canon_code.specs.CodeText.{numbers_text, Lists}
use Rattle.canon_code.specs.Refusals.{IsCodeOver, IsCause}
use Rattle.report_text.specs.declared.fault.ReportFault.{ReportFault}
use Rattle.report_text.specs.declared.fault.ReportFault.TheVariants as faults
use Rattle.report_text.specs.Lines.{Line, line_text, lines_then}
use Rattle.report_text.specs.Lines.Line.{version, field, base, class_count, class, matrix_count, matrix, end}
use Rattle.report_text.specs.Limits.{IsWithin, IsClassCount, IsClass, IsAboveLast, IsMatrix}
use Rattle.report_text.specs.Following.{SoFar, MayFollow, with_lines, AllFollow, WantsClass}
use Rattle.report_text.specs.Refusals.{IsCodeBad, IsBad, IsFaultBehind}
use Rattle.report_text.specs.Readings.{Lacks, IsSplitAt, IsTaken, IsNotTaken, IsNextFault}
use Rattle.report_text.proofs.Bytes.{no_stop, one_split}
use Rattle.report_text.proofs.Injective.{numbers_injective}
use Rattle.report_text.proofs.LineTexts.{line_lacks, class_lacks}
use Rattle.report_text.proofs.Follows.{lines_append, with_append, follow_append}
use Rattle.report_text.proofs.Verdicts.{code_free}

-- ---- the next line
-- it is the bytes before the line feed
pub next_line : {rest line after : List ℕ} → IsSplitAt 10 rest line after → (of : Line) (more : List ℕ) → rest ≡ line_text of ++ 10 ∷ more → line ≡ line_text of
next_line split of more e = let f = one_split split (line_text of) more (line_lacks of) e in f.0

module _ (X : Type 0) (Of : X → Line) (Fits : X → Type 0) (rest : List ℕ) where
  -- without a line feed there is none
  pub cut : Lacks 10 rest → IsNotTaken Of Fits rest
  cut lacks x after taken = no_stop 10 rest (line_text (Of x)) after lacks taken.0

  module _ (line after : List ℕ) (split : IsSplitAt 10 rest line after) where
    -- it is no line of a value within the limits
    pub no_line : ((x : X) → line ≡ line_text (Of x) → ¬ (Fits x)) → IsNotTaken Of Fits rest
    no_line none x more taken = none x (next_line split (Of x) more taken.0) taken.1

    -- it is the line of this value
    pub taken : (x : X) → line ≡ line_text (Of x) → Fits x → IsTaken Of Fits rest x after
    taken x is fits = (split.found ∙ ap (λ (l : List ℕ). l ++ 10 ∷ after) is, fits)

    module _ (word : List ℕ) (text : X → List ℕ) (shape : (x : X) → line_text (Of x) ≡ word ++ text x) where
      -- it begins with another word
      pub other_word : ((tail : List ℕ) → line ≢ word ++ tail) → IsNotTaken Of Fits rest
      other_word none = no_line (λ x is fits. none (text x) (is ∙ shape x))

      -- what follows its word isn't the text of a value within the limits
      pub no_value : (tail : List ℕ) → line ≡ word ++ tail → ((x : X) → tail ≡ text x → ¬ (Fits x)) → IsNotTaken Of Fits rest
      no_value tail head none = no_line (λ x is fits. none x (append_cancel_left word tail (text x) (sym head ∙ is ∙ shape x)) fits)

      -- it is
      pub value_taken : (tail : List ℕ) (x : X) → line ≡ word ++ tail → tail ≡ text x → Fits x → IsTaken Of Fits rest x after
      value_taken tail x head is fits = taken x (head ∙ ap (λ (t : List ℕ). word ++ t) is ∙ sym (shape x)) fits

-- ---- bad lines
-- where class lines aren't wanted, and the report isn't whole
bad_where : (so : SoFar) (rest : List ℕ) → so ≢ SoFar.whole → ((number : ℕ) → ¬ (WantsClass so number))
    → ((line : Line) (more : List ℕ) → rest ≡ line_text line ++ 10 ∷ more → ¬ (MayFollow so line)) → IsBad so rest
bad_where so rest open_still unwanted none = record { none = none; left = λ whole empty. open_still whole; other = λ fault is. absurd (unwanted is.number is.wanted) }

pub bad_version : (rest : List ℕ) → ((after : List ℕ) → rest ≢ line_text version ++ 10 ∷ after) → IsBad SoFar.nothing rest
bad_version rest not = bad_where SoFar.nothing rest (λ e. absurd (cc)) (λ number wanted. wanted) none
  where
    none : (line : Line) (more : List ℕ) → rest ≡ line_text line ++ 10 ∷ more → ¬ (MayFollow SoFar.nothing line)
    none version more e may = not more e
    none (field d) more e may = may
    none (base at) more e may = may
    none (class_count n) more e may = may
    none (class code) more e may = may
    none (matrix_count n) more e may = may
    none (matrix m) more e may = may
    none end more e may = may

pub bad_field : (rest : List ℕ) → IsNotTaken Line.field IsFieldNumber rest → IsBad SoFar.begun rest
bad_field rest not = bad_where SoFar.begun rest (λ e. absurd (cc)) (λ number wanted. wanted) none
  where
    none : (line : Line) (more : List ℕ) → rest ≡ line_text line ++ 10 ∷ more → ¬ (MayFollow SoFar.begun line)
    none (field d) more e may = not d more (e, may)
    none version more e may = may
    none (base at) more e may = may
    none (class_count n) more e may = may
    none (class code) more e may = may
    none (matrix_count n) more e may = may
    none (matrix m) more e may = may
    none end more e may = may

pub bad_base : (d : ℕ) (rest : List ℕ) → IsNotTaken Line.base IsBasePoint rest → IsBad (SoFar.over d) rest
bad_base d rest not = bad_where (SoFar.over d) rest (λ e. absurd (cc)) (λ number wanted. wanted) none
  where
    none : (line : Line) (more : List ℕ) → rest ≡ line_text line ++ 10 ∷ more → ¬ (MayFollow (SoFar.over d) line)
    none (base at) more e may = not at more (e, may)
    none version more e may = may
    none (field d) more e may = may
    none (class_count n) more e may = may
    none (class code) more e may = may
    none (matrix_count n) more e may = may
    none (matrix m) more e may = may
    none end more e may = may

pub bad_class_count : (d : ℕ) (rest : List ℕ) → IsNotTaken Line.class_count IsClassCount rest → IsBad (SoFar.based d) rest
bad_class_count d rest not = bad_where (SoFar.based d) rest (λ e. absurd (cc)) (λ number wanted. wanted) none
  where
    none : (line : Line) (more : List ℕ) → rest ≡ line_text line ++ 10 ∷ more → ¬ (MayFollow (SoFar.based d) line)
    none (class_count n) more e may = not n more (e, may)
    none version more e may = may
    none (field d) more e may = may
    none (base at) more e may = may
    none (class code) more e may = may
    none (matrix_count n) more e may = may
    none (matrix m) more e may = may
    none end more e may = may

pub bad_matrix_count : (d n : ℕ) (come : List (List ℤ)) (rest : List ℕ) → length come ≡ n → IsNotTaken Line.matrix_count IsWithin rest → IsBad (SoFar.classes d n come) rest
bad_matrix_count d n come rest enough not = bad_where (SoFar.classes d n come) rest (λ e. absurd (cc)) (λ number wanted. let low = wanted.1 in omega (arith, low, enough)) none
  where
    none : (line : Line) (more : List ℕ) → rest ≡ line_text line ++ 10 ∷ more → ¬ (MayFollow (SoFar.classes d n come) line)
    none (matrix_count m) more e may = not m more (e, may.1)
    none (class code) more e may = let low = may.0 in omega (arith, low, enough)
    none version more e may = may
    none (field d) more e may = may
    none (base at) more e may = may
    none (class_count n) more e may = may
    none (matrix m) more e may = may
    none end more e may = may

pub bad_matrix : (m come : ℕ) (rest : List ℕ) → come < m → IsNotTaken Line.matrix IsMatrix rest → IsBad (SoFar.matrices m come) rest
bad_matrix m come rest low not = bad_where (SoFar.matrices m come) rest (λ e. absurd (cc)) (λ number wanted. wanted) none
  where
    none : (line : Line) (more : List ℕ) → rest ≡ line_text line ++ 10 ∷ more → ¬ (MayFollow (SoFar.matrices m come) line)
    none (matrix a) more e may = not a more (e, may.1)
    none end more e may = let same : come ≡ m = may in omega (arith, low, same)
    none version more e may = may
    none (field d) more e may = may
    none (base at) more e may = may
    none (class_count n) more e may = may
    none (class code) more e may = may
    none (matrix_count n) more e may = may

pub bad_end : (m come : ℕ) (rest : List ℕ) → come ≡ m → ((after : List ℕ) → rest ≢ line_text end ++ 10 ∷ after) → IsBad (SoFar.matrices m come) rest
bad_end m come rest enough not = bad_where (SoFar.matrices m come) rest (λ e. absurd (cc)) (λ number wanted. wanted) none
  where
    none : (line : Line) (more : List ℕ) → rest ≡ line_text line ++ 10 ∷ more → ¬ (MayFollow (SoFar.matrices m come) line)
    none (matrix a) more e may = let low = may.0 in omega (arith, low, enough)
    none end more e may = not more e
    none version more e may = may
    none (field d) more e may = may
    none (base at) more e may = may
    none (class_count n) more e may = may
    none (class code) more e may = may
    none (matrix_count n) more e may = may

pub bad_late : (rest : List ℕ) → rest ≢ [] → IsBad SoFar.whole rest
bad_late rest some = record { none = none; left = λ whole. some; other = λ fault is. absurd is.wanted }
  where
    none : (line : Line) (more : List ℕ) → rest ≡ line_text line ++ 10 ∷ more → ¬ (MayFollow SoFar.whole line)
    none version more e may = may
    none (field d) more e may = may
    none (base at) more e may = may
    none (class_count n) more e may = may
    none (class code) more e may = may
    none (matrix_count n) more e may = may
    none (matrix m) more e may = may
    none end more e may = may

-- ---- class lines
module _ (d n : ℕ) (come : List (List ℤ)) (low : length come < n) (rest : List ℕ) where
  -- lines that may follow are those of classes
  class_alone : ((code : List ℤ) (more : List ℕ) → rest ≡ line_text (class code) ++ 10 ∷ more → IsClass d code → ¬ (IsAboveLast come code))
      → (line : Line) (more : List ℕ) → rest ≡ line_text line ++ 10 ∷ more → ¬ (MayFollow (SoFar.classes d n come) line)
  class_alone not (class code) more e may = not code more e may.1 may.2
  class_alone not (matrix_count m) more e may = let same = may.0 in omega (arith, low, same)
  class_alone not version more e may = may
  class_alone not (field k) more e may = may
  class_alone not (base at) more e may = may
  class_alone not (class_count k) more e may = may
  class_alone not (matrix m) more e may = may
  class_alone not end more e may = may

  pub bad_cut : Lacks 10 rest → IsBad (SoFar.classes d n come) rest
  bad_cut lacks = record {
    none = λ line more e may. no_stop 10 rest (line_text line) more lacks e;
    left = λ whole. absurd (cc);
    other = λ fault is. absurd (no_stop 10 rest (codes "class " ++ is.text) is.more lacks is.found);
  }

  module _ (line after : List ℕ) (split : IsSplitAt 10 rest line after) where
    -- the text of a class line that is refused
    text_is : (fault : CodeFault) (is : IsCodeBad (SoFar.classes d n come) rest fault) → line ≡ codes "class " ++ is.text
    text_is fault is =
        let lacks = is.lacks in
        let f = one_split split (codes "class " ++ is.text) is.more (class_lacks is.text lacks) is.found in f.0

    pub bad_class_word : ((tail : List ℕ) → line ≢ codes "class " ++ tail) → IsBad (SoFar.classes d n come) rest
    bad_class_word none = record {
      none = class_alone (λ code more e is above. none (numbers_text code) (next_line split (class code) more e));
      left = λ whole. absurd (cc);
      other = λ fault is. absurd (none is.text (text_is fault is));
    }

    -- a class whose code isn't above the last
    pub bad_order : (text : List ℕ) (code : List ℤ) → line ≡ codes "class " ++ text → Lists text code → IsMade d code → ¬ (IsAboveLast come code) → IsBad (SoFar.classes d n come) rest
    bad_order text code head lists made low_code = record {
      none = class_alone (λ other more e is above. low_code (subst (IsAboveLast come) (same other more e) above));
      left = λ whole. absurd (cc);
      other = λ fault is.
          let theirs : text ≡ is.text = append_cancel_left (codes "class ") text is.text (sym head ∙ text_is fault is) in
          let wanted = is.wanted in
          code_free is.number is.text code fault (subst (λ (t : List ℕ). Lists t code) theirs lists) (subst (λ (k : ℕ). IsCodeOver k code) wanted.0 (made.0, made.1, made.2)) is.cause;
    }
      where
        same : (other : List ℤ) (more : List ℕ) → rest ≡ line_text (class other) ++ 10 ∷ more → other ≡ code
        same other more e =
            let texts : numbers_text other ≡ text = append_cancel_left (codes "class ") (numbers_text other) text (sym (next_line split (class other) more e) ∙ head) in
            numbers_injective other code (texts ∙ lists.spelled)

    -- a class whose text is refused
    pub refused_class : (text : List ℕ) (fault : CodeFault) → line ≡ codes "class " ++ text → IsCause d text fault → IsCodeBad (SoFar.classes d n come) rest fault
    refused_class text fault head cause = record {
      number = d;
      text = text;
      more = after;
      wanted = (refl, low);
      found = split.found ∙ ap (λ (l : List ℕ). l ++ 10 ∷ after) head;
      lacks = behind (subst (Lacks 10) head split.lacks);
      cause = cause;
    }
      where
        behind : Lacks 10 (codes "class " ++ text) → Lacks 10 text
        behind lacks = lacks.1.1.1.1.1.1

-- a class is read
pub class_read : (d : ℕ) (rest line after text : List ℕ) (code : List ℤ) → IsSplitAt 10 rest line after → line ≡ codes "class " ++ text → Lists text code → IsMade d code
    → (rest ≡ line_text (class code) ++ 10 ∷ after) × IsClass d code
class_read d rest line after text code split head lists made =
    let spelled = lists.spelled in (
      split.found ∙ ap (λ (l : List ℕ). l ++ 10 ∷ after) (head ∙ ap (λ (t : List ℕ). codes "class " ++ t) spelled),
      (subst (λ (t : List ℕ). Lists t code) spelled lists, (made.0, made.1, made.2)),
    )

-- a refused class line is the next fault
pub next_refusal : (so : SoFar) (rest : List ℕ) (line : ℕ) (fault : CodeFault) (r : ReportFault) → (fault ≢ code_faults.Memory → r ≡ faults.Code line fault) → (fault ≡ code_faults.Memory → r ≡ faults.Memory)
    → IsCodeBad so rest fault → IsNextFault so rest line r
next_refusal so rest line code_faults.Form r other memory is =
    let told : code_faults.Form ≢ code_faults.Memory = λ e. absurd (cc) in subst (IsNextFault so rest line) (sym (other told)) (refl, is, told)
next_refusal so rest line code_faults.NotCode r other memory is =
    let told : code_faults.NotCode ≢ code_faults.Memory = λ e. absurd (cc) in subst (IsNextFault so rest line) (sym (other told)) (refl, is, told)
next_refusal so rest line (code_faults.Wide formula) r other memory is =
    let told : code_faults.Wide formula ≢ code_faults.Memory = λ e. absurd (cc) in subst (IsNextFault so rest line) (sym (other told)) (refl, is, told)
next_refusal so rest line code_faults.Memory r other memory is = subst (IsNextFault so rest line) (sym (memory refl)) tt

-- ---- refusals behind lines
pub fault_next : (so : SoFar) (passed : ℕ) (bytes : List ℕ) (before : List Line) (rest : List ℕ) (fault : ReportFault) → bytes ≡ lines_then before rest → AllFollow so before
    → IsNextFault (with_lines so before) rest (passed + length before + 1) fault → IsFaultBehind so passed bytes fault
fault_next so passed bytes before rest (faults.Bad line) found all is = record { before = before; rest = rest; found = found; follow = all; is = is.1; number = is.0 }
fault_next so passed bytes before rest (faults.Code line fault) found all is =
    (record { before = before; rest = rest; found = found; follow = all; is = is.1; number = is.0 }, is.2)
fault_next so passed bytes before rest faults.Memory found all is = tt

pub fault_deeper : (so : SoFar) (passed : ℕ) (bytes : List ℕ) (before : List Line) (rest : List ℕ) (fault : ReportFault) → bytes ≡ lines_then before rest → AllFollow so before
    → IsFaultBehind (with_lines so before) (passed + length before) rest fault → IsFaultBehind so passed bytes fault
fault_deeper so passed bytes before rest (faults.Bad line) found all at =
    fault_next so passed bytes (before ++ at.before) at.rest (faults.Bad line) (deeper_found at.before at.rest at.found) (follow_append so before at.before all at.follow)
    (let number = at.number in let long = length-append before at.before in omega (arith, number, long), subst (λ (now : SoFar). IsBad now at.rest) (sym (with_append so before at.before)) at.is)
  where
    deeper_found : (more : List Line) (behind : List ℕ) → rest ≡ lines_then more behind → bytes ≡ lines_then (before ++ more) behind
    deeper_found more behind e = found ∙ ap (lines_then before) e ∙ sym (lines_append before more behind)
fault_deeper so passed bytes before rest (faults.Code line fault) found all (at, told) =
    fault_next so passed bytes (before ++ at.before) at.rest (faults.Code line fault) (deeper_found at.before at.rest at.found) (follow_append so before at.before all at.follow)
    (let number = at.number in let long = length-append before at.before in omega (arith, number, long), subst (λ (now : SoFar). IsCodeBad now at.rest fault) (sym (with_append so before at.before)) at.is, told)
  where
    deeper_found : (more : List Line) (behind : List ℕ) → rest ≡ lines_then more behind → bytes ≡ lines_then (before ++ more) behind
    deeper_found more behind e = found ∙ ap (lines_then before) e ∙ sym (lines_append before more behind)
fault_deeper so passed bytes before rest faults.Memory found all is = tt
