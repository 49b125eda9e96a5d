-- A text is refused in one way, but for width and want of memory, and a report within the limits in none.
use Rattle.std.proofs.Common.{◌≡◌, ◌⊎◌, inl, inr, ℕ, ◌+◌, List, [], ◌∷◌, ◌++◌, length, codes, Err, Ok, Result, refl, ap, sym, ◌∙◌, subst, arith}
use Rattle.std.specs.Prelude.{ℤ, IfOk, IfErr, MatchResult}
use Rattle.std.proofs.lemmas.List.{append_cancel_left}
use Rattle.plane.specs.Matrices.{FieldMatrix}
use Rattle.surface_text.specs.declared.file.Point.{Point}
use Rattle.canon_code.specs.declared.fault.CodeFault.{CodeFault}
use Rattle.canon_code.specs.declared.fault.CodeFault.TheVariants as code_faults
use Rattle.canon_code.specs.CodeText.{numbers_text, Lists}
use Rattle.canon_code.specs.Refusals.{IsCodeOver, IsCause, IsFree as IsFreeOfCode}
use Rattle.report_text.specs.declared.fault.ReportFault.{ReportFault}
use Rattle.report_text.specs.declared.fault.ReportFault.TheVariants as faults
use Rattle.report_text.specs.Reports.{report_text}
use Rattle.report_text.specs.Lines.{Line, line_text, lines_then, report_lines}
use Rattle.report_text.specs.Lines.Line.{version, field, base, class_count, class, matrix_count, matrix, end}
use Rattle.report_text.specs.Limits.{IsReport}
use Rattle.report_text.specs.Following.{SoFar, MayFollow, with_line, with_lines, AllFollow, WantsClass}
use Rattle.report_text.specs.Refusals.{IsCodeBad, IsBad, IsAt, IsFaultOf, IsFree}
use Rattle.report_text.proofs.Bytes.{one_front, no_bytes}
use Rattle.report_text.proofs.Injective.{numbers_injective}
use Rattle.report_text.proofs.LineTexts.{line_lacks, class_lacks, front_line}
use Rattle.report_text.proofs.Follows.{follow_of, whole_of}
use Rattle.report_text.proofs.ReportTexts.{text_of_lines}

-- a line that may follow stands next
pub record GoesOn (so : SoFar) (rest : List ℕ) : Type 0 where
  pub line : Line
  pub more : List ℕ
  pub may : MayFollow so line
  pub found : rest ≡ line_text line ++ 10 ∷ more

-- two ways to read the same bytes: they end at the same place, or one goes on where the other ends
meet : (so : SoFar) (xs ys : List Line) (r s : List ℕ) → lines_then xs r ≡ lines_then ys s → AllFollow so xs → AllFollow so ys
    → ((xs ≡ ys) × (r ≡ s)) ⊎ (GoesOn (with_lines so xs) r ⊎ GoesOn (with_lines so ys) s)
meet so [] [] r s e left right = inl (refl, e)
meet so [] (y ∷ ys) r s e left right = inr (inl (record { line = y; more = lines_then ys s; may = right.0; found = e }))
meet so (x ∷ xs) [] r s e left right = inr (inr (record { line = x; more = lines_then xs r; may = left.0; found = sym e }))
meet so (x ∷ xs) (y ∷ ys) r s e left right =
    let heads = front_line x y (lines_then xs r) (lines_then ys s) e in
    let turn : y ≡ x = sym heads.0 in
    elim (meet (with_line so x) xs ys r s heads.1 left.1 (subst (λ (z : Line). AllFollow (with_line so z) ys) turn right.1)) [
      | inl same ↦ inl (ap (λ (l : List Line). x ∷ l) same.0 ∙ ap (λ (z : Line). z ∷ ys) heads.0, same.1)
      | inr other ↦ elim other [
        | inl on ↦ inr (inl on)
        | inr on ↦ inr (inr (subst (λ (z : Line). GoesOn (with_lines (with_line so z) ys) s) heads.0 on))
      ]
    ]

-- a bad line doesn't go on
bad_ends : (so : SoFar) (rest : List ℕ) → IsBad so rest → ¬ (GoesOn so rest)
bad_ends so rest bad on = bad.none on.line on.more on.found on.may

-- a text that lists a code of the field is refused for width or want of memory alone
pub code_free : (number : ℕ) (text : List ℕ) (code : List ℤ) (fault : CodeFault) → Lists text code → IsCodeOver number code → IsCause number text fault → IsFreeOfCode fault
code_free number text code code_faults.Form lists over cause = absurd (cause code lists)
code_free number text code code_faults.NotCode lists over cause =
    let theirs = cause.1 in
    let same : code ≡ cause.0 = numbers_injective code cause.0 (sym lists.spelled ∙ theirs.spelled) in absurd (cause.2 (subst (IsCodeOver number) same over))
code_free number text code (code_faults.Wide formula) lists over cause = tt
code_free number text code code_faults.Memory lists over cause = tt

-- a line that is next, where a class line with this text is
pub same_text : (so : SoFar) (rest : List ℕ) (fault : CodeFault) (is : IsCodeBad so rest fault) (line : Line) (more : List ℕ) → rest ≡ line_text line ++ 10 ∷ more
    → line_text line ≡ codes "class " ++ is.text
same_text so rest fault is line more found =
    let lacks = is.lacks in
    let f = one_front 10 (line_text line) (codes "class " ++ is.text) more is.more (line_lacks line) (class_lacks is.text lacks) (sym found ∙ is.found) in f.0

-- a class line that is refused, but not for width or want of memory, doesn't go on
code_ends : (so : SoFar) (rest : List ℕ) (fault : CodeFault) → IsCodeBad so rest fault → ¬ (IsFreeOfCode fault) → ¬ (GoesOn so rest)
code_ends so rest fault is firm on = go so on.line is.wanted on.may (same_text so rest fault is on.line on.more on.found)
  where
    go : (now : SoFar) (line : Line) → WantsClass now is.number → MayFollow now line → line_text line ≡ codes "class " ++ is.text → ⊥
    go (SoFar.classes d n come) (class code) wanted may e =
        let listed : numbers_text code ≡ is.text = append_cancel_left (codes "class ") (numbers_text code) is.text e in
        let lists : Lists is.text code = subst (λ (t : List ℕ). Lists t code) listed may.1.0 in
        let over : IsCodeOver is.number code = subst (λ (k : ℕ). IsCodeOver k code) wanted.0 may.1.1 in firm (code_free is.number is.text code fault lists over is.cause)
    go (SoFar.classes d n come) (matrix_count m) wanted may e = let low = wanted.1 in let same = may.0 in omega (arith, low, same)
    go (SoFar.classes d n come) version wanted may e = may
    go (SoFar.classes d n come) (field k) wanted may e = may
    go (SoFar.classes d n come) (base at) wanted may e = may
    go (SoFar.classes d n come) (class_count k) wanted may e = may
    go (SoFar.classes d n come) (matrix m) wanted may e = may
    go (SoFar.classes d n come) end wanted may e = may
    go SoFar.nothing line wanted may e = wanted
    go SoFar.begun line wanted may e = wanted
    go (SoFar.over d) line wanted may e = wanted
    go (SoFar.based d) line wanted may e = wanted
    go (SoFar.matrices m come) line wanted may e = wanted
    go SoFar.whole line wanted may e = wanted

-- two refusals of one class line, not for width or want of memory, are one
code_same : (so : SoFar) (rest : List ℕ) (fault other : CodeFault) → IsCodeBad so rest fault → IsCodeBad so rest other → ¬ (IsFreeOfCode fault) → ¬ (IsFreeOfCode other) → fault ≡ other
code_same so rest fault other is its firm hard = go fault other is.cause theirs firm hard
  where
    texts : its.text ≡ is.text
    texts =
        let left = is.lacks in
        let right = its.lacks in
        let f = one_front 10 (codes "class " ++ its.text) (codes "class " ++ is.text) its.more is.more (class_lacks its.text right) (class_lacks is.text left) (sym its.found ∙ is.found) in
        append_cancel_left (codes "class ") its.text is.text f.0

    theirs : IsCause its.number is.text other
    theirs = subst (λ (t : List ℕ). IsCause its.number t other) texts its.cause

    go : (f g : CodeFault) → IsCause is.number is.text f → IsCause its.number is.text g → ¬ (IsFreeOfCode f) → ¬ (IsFreeOfCode g) → f ≡ g
    go code_faults.Form code_faults.Form one two p q = refl
    go code_faults.NotCode code_faults.NotCode one two p q = refl
    go code_faults.Form code_faults.NotCode one two p q = absurd (one two.0 two.1)
    go code_faults.NotCode code_faults.Form one two p q = absurd (two one.0 one.1)
    go code_faults.Form (code_faults.Wide formula) one two p q = absurd (q tt)
    go code_faults.Form code_faults.Memory one two p q = absurd (q tt)
    go code_faults.NotCode (code_faults.Wide formula) one two p q = absurd (q tt)
    go code_faults.NotCode code_faults.Memory one two p q = absurd (q tt)
    go (code_faults.Wide formula) g one two p q = absurd (p tt)
    go code_faults.Memory g one two p q = absurd (p tt)

-- two places at which bytes can't go on are one
meet_at : (so : SoFar) (passed : ℕ) (bytes : List ℕ) (l m : ℕ) (One Two : SoFar → List ℕ → Type 0)
    → ((now : SoFar) (rest : List ℕ) → One now rest → ¬ (GoesOn now rest)) → ((now : SoFar) (rest : List ℕ) → Two now rest → ¬ (GoesOn now rest))
    → IsAt so passed bytes l One → IsAt so passed bytes m Two → (l ≡ m) × ((now : SoFar) × (rest : List ℕ) × One now rest × Two now rest)
meet_at so passed bytes l m One Two one_ends two_ends one two =
    let first = one.is in
    let second = two.is in
    elim (meet so one.before two.before one.rest two.rest (sym one.found ∙ two.found) one.follow two.follow) [
      | inl same ↦ (
        one.number ∙ ap (λ (xs : List Line). passed + length xs + 1) same.0 ∙ sym two.number,
        (
          with_lines so one.before,
          one.rest,
          first,
          subst (λ (xs : List Line). Two (with_lines so xs) one.rest) (sym same.0) (subst (Two (with_lines so two.before)) (sym same.1) second),
        ),
      )
      | inr other ↦ elim other [
        | inl on ↦ absurd (one_ends (with_lines so one.before) one.rest first on)
        | inr on ↦ absurd (two_ends (with_lines so two.before) two.rest second on)
      ]
    ]

-- a class line that is refused so
abbrev CodeBad : CodeFault → SoFar → List ℕ → Type 0
CodeBad fault now rest = IsCodeBad now rest fault

-- a text is refused in one way, but for width and want of memory
pub one_refusal : (bytes : List ℕ) (fault other : ReportFault) → IsFaultOf bytes fault → IsFaultOf bytes other → ¬ (IsFree fault) → ¬ (IsFree other) → fault ≡ other
one_refusal bytes (faults.Bad l) (faults.Bad m) one two firm hard =
    let w = meet_at SoFar.nothing 0 bytes l m IsBad IsBad bad_ends bad_ends one two in ap faults.Bad w.0
one_refusal bytes (faults.Bad l) (faults.Code m g) one two firm hard =
    let w = meet_at SoFar.nothing 0 bytes l m IsBad (CodeBad g) bad_ends (λ now rest is. code_ends now rest g is hard) one two.0 in
    let bad = w.1.2 in absurd (hard (bad.other g w.1.3))
one_refusal bytes (faults.Code l f) (faults.Bad m) one two firm hard =
    let w = meet_at SoFar.nothing 0 bytes l m (CodeBad f) IsBad (λ now rest is. code_ends now rest f is firm) bad_ends one.0 two in
    let bad = w.1.3 in absurd (firm (bad.other f w.1.2))
one_refusal bytes (faults.Code l f) (faults.Code m g) one two firm hard =
    let w =
    meet_at SoFar.nothing 0 bytes l m (CodeBad f) (CodeBad g) (λ now rest is. code_ends now rest f is firm) (λ now rest is. code_ends now rest g is hard) one.0 two.0 in
    ap (λ (n : ℕ). faults.Code n f) w.0 ∙ ap (faults.Code m) (code_same w.1.0 w.1.1 f g w.1.2 w.1.3 firm hard)
one_refusal bytes faults.Memory other one two firm hard = absurd (firm tt)
one_refusal bytes (faults.Bad l) faults.Memory one two firm hard = absurd (hard tt)
one_refusal bytes (faults.Code l f) faults.Memory one two firm hard = absurd (hard tt)

-- where all bytes are read and the report is whole, nothing is refused
abbrev IsRead : SoFar → List ℕ → Type 0
IsRead now rest = (now ≡ SoFar.whole) × (rest ≡ [])

read_ends : (now : SoFar) (rest : List ℕ) → IsRead now rest → ¬ (GoesOn now rest)
read_ends now rest is on = no_bytes (line_text on.line) on.more (sym is.1 ∙ on.found)

read_at : (bytes : List ℕ) (d : ℕ) (at : Point) (classes : List (List ℤ)) (matrices : List FieldMatrix) → bytes ≡ report_text d at classes matrices → IsReport d at classes matrices
    → IsAt SoFar.nothing 0 bytes (0 + length (report_lines d at classes matrices) + 1) IsRead
read_at bytes d at classes matrices e is = record {
  before = report_lines d at classes matrices;
  rest = [];
  found = e ∙ text_of_lines d at classes matrices;
  follow = follow_of d at classes matrices is;
  is = (whole_of d at classes matrices, refl);
  number = refl;
}

unwanted : (now : SoFar) (number : ℕ) → now ≡ SoFar.whole → ¬ (WantsClass now number)
unwanted now number e wanted = subst (λ (so : SoFar). WantsClass so number) e wanted

no_code : (bytes : List ℕ) (d : ℕ) (at : Point) (classes : List (List ℤ)) (matrices : List FieldMatrix) (l : ℕ) (fault : CodeFault)
    → bytes ≡ report_text d at classes matrices → IsReport d at classes matrices → IsAt SoFar.nothing 0 bytes l (CodeBad fault) → ¬ (¬ (IsFreeOfCode fault))
no_code bytes d at classes matrices l fault e is at_fault firm =
    let w =
    meet_at SoFar.nothing 0 bytes (0 + length (report_lines d at classes matrices) + 1) l IsRead (CodeBad fault) read_ends (λ now rest bad. code_ends now rest fault bad firm)
    (read_at bytes d at classes matrices e is) at_fault in
    let bad = w.1.3 in
    let read = w.1.2 in unwanted w.1.0 bad.number read.0 bad.wanted

-- the text of a report within the limits is refused for width or want of memory alone
pub no_refusal : (bytes : List ℕ) (d : ℕ) (at : Point) (classes : List (List ℤ)) (matrices : List FieldMatrix) (fault : ReportFault)
    → bytes ≡ report_text d at classes matrices → IsReport d at classes matrices → IsFaultOf bytes fault → IsFree fault
no_refusal bytes d at classes matrices (faults.Bad l) e is fault =
    let w = meet_at SoFar.nothing 0 bytes (0 + length (report_lines d at classes matrices) + 1) l IsRead IsBad read_ends bad_ends (read_at bytes d at classes matrices e is) fault in
    let bad = w.1.3 in
    let read = w.1.2 in bad.left read.0 read.1
no_refusal bytes d at classes matrices (faults.Code l code_faults.Form) e is fault = absurd (no_code bytes d at classes matrices l code_faults.Form e is fault.0 (λ free. free))
no_refusal bytes d at classes matrices (faults.Code l code_faults.NotCode) e is fault = absurd (no_code bytes d at classes matrices l code_faults.NotCode e is fault.0 (λ free. free))
no_refusal bytes d at classes matrices (faults.Code l (code_faults.Wide formula)) e is fault = tt
no_refusal bytes d at classes matrices (faults.Code l code_faults.Memory) e is fault = tt
no_refusal bytes d at classes matrices faults.Memory e is fault = tt

-- ---- the answers
-- what is answered to a report within the limits
pub accepted : {R : Type 0} (bytes : List ℕ) (answer : Result R ReportFault) (Own Wanted : R → Type 0) → IfOk answer Own → IfErr answer (IsFaultOf bytes) → ((r : R) → Own r → Wanted r)
    → (d : ℕ) (at : Point) (classes : List (List ℤ)) (matrices : List FieldMatrix) → bytes ≡ report_text d at classes matrices → IsReport d at classes matrices → MatchResult answer Wanted IsFree
accepted bytes (Ok r) Own Wanted own fault turn d at classes matrices e is = turn r own
accepted bytes (Err f) Own Wanted own fault turn d at classes matrices e is = no_refusal bytes d at classes matrices f e is fault

-- and to a text that is refused
pub refused : {R : Type 0} (bytes : List ℕ) (answer : Result R ReportFault) (Own : R → Type 0) → IfOk answer Own → IfErr answer (IsFaultOf bytes)
    → (fault : ReportFault) → ((r : R) → ¬ (Own r)) → IsFaultOf bytes fault → ¬ (IsFree fault) → MatchResult answer (λ _. ⊥) (λ f. (f ≡ fault) ⊎ IsFree f)
refused bytes (Ok r) Own own is fault none theirs firm = none r own
refused bytes (Err (faults.Bad l)) Own own is fault none theirs firm = inl (one_refusal bytes (faults.Bad l) fault is theirs (λ free. free) firm)
refused bytes (Err (faults.Code l code_faults.Form)) Own own is fault none theirs firm =
    inl (one_refusal bytes (faults.Code l code_faults.Form) fault is theirs (λ free. free) firm)
refused bytes (Err (faults.Code l code_faults.NotCode)) Own own is fault none theirs firm =
    inl (one_refusal bytes (faults.Code l code_faults.NotCode) fault is theirs (λ free. free) firm)
refused bytes (Err (faults.Code l (code_faults.Wide formula))) Own own is fault none theirs firm = inr tt
refused bytes (Err (faults.Code l code_faults.Memory)) Own own is fault none theirs firm = inr tt
refused bytes (Err faults.Memory) Own own is fault none theirs firm = inr tt
