-- A report read part by part: its head, its classes, its matrices and its end.
use Rattle.std.proofs.Common.{◌≡◌, ◌≢◌, ℕ, ◌+◌, ◌<◌, List, [], ◌∷◌, ◌++◌, map, length, refl, ap, sym, ◌∙◌, subst, arith, append_assoc}
use Rattle.std.specs.Prelude.{ℤ}
use Rattle.std.specs.List.{AllByRecursion}
use Rattle.std.proofs.lemmas.List.{length-append, length-map, map-append}
use Rattle.plane.specs.Matrices.{FieldMatrix}
use Rattle.surface_text.specs.declared.file.Point.{Point}
use Rattle.quad_field.specs.FieldNumber.{IsFieldNumber}
use Rattle.surface_text.specs.Limits.{IsBasePoint}
use Rattle.canon_code.specs.Canonical.{IsMade}
use Rattle.report_text.specs.declared.fault.ReportFault.{ReportFault}
use Rattle.report_text.specs.declared.fault.ReportFault.TheVariants as faults
use Rattle.report_text.specs.Reports.{report_text}
use Rattle.report_text.specs.Lines.{Line, line_text, lines_then, head_lines, report_lines}
use Rattle.report_text.specs.Lines.Line.{version, field, base, class_count, class, matrix_count, matrix, end}
use Rattle.report_text.specs.Limits.{IsWithin, IsClassCount, IsClass, IsAboveLast, IsMatrix, IsReport}
use Rattle.report_text.specs.Following.{SoFar, with_lines, AllFollow}
use Rattle.report_text.specs.Refusals.{IsBad, IsFaultBehind, IsFaultOf}
use Rattle.report_text.specs.Readings.{IsTaken, IsNotTaken, IsNextFault, AreClassesRead, AreMatricesRead}
use Rattle.report_text.proofs.Follows.{lines_append, with_append, with_classes, with_matrices, follow_append, limits_of}
use Rattle.report_text.proofs.ReportTexts.{text_of_lines}
use Rattle.report_text.proofs.NextLines.{fault_next, fault_deeper, bad_version, bad_field, bad_base, bad_class_count, bad_matrix_count, bad_matrix, bad_end, bad_late}

-- one line more
lines_more : (bytes : List ℕ) (before : List Line) (rest : List ℕ) (line : Line) (after : List ℕ) → bytes ≡ lines_then before rest → rest ≡ line_text line ++ 10 ∷ after
    → bytes ≡ lines_then (before ++ line ∷ []) after
lines_more bytes before rest line after found e = found ∙ ap (lines_then before) e ∙ sym (lines_append before (line ∷ []) after)

-- ---- the head
pub no_version : (bytes : List ℕ) → ((after : List ℕ) → bytes ≢ line_text version ++ 10 ∷ after) → IsFaultOf bytes (faults.Bad 1)
no_version bytes not = fault_next SoFar.nothing 0 bytes [] bytes (faults.Bad 1) refl tt (refl, bad_version bytes not)

module _ (bytes one : List ℕ) (first : bytes ≡ line_text version ++ 10 ∷ one) where
  pub no_field : IsNotTaken field IsFieldNumber one → IsFaultOf bytes (faults.Bad 2)
  no_field not = fault_next SoFar.nothing 0 bytes (version ∷ []) one (faults.Bad 2) first (tt, tt) (refl, bad_field one not)

  module _ (d : ℕ) (two : List ℕ) (second : IsTaken field IsFieldNumber one d two) where
    found_two : bytes ≡ lines_then (version ∷ field d ∷ []) two
    found_two = first ∙ ap (λ (l : List ℕ). line_text version ++ 10 ∷ l) second.0

    pub no_base : IsNotTaken base IsBasePoint two → IsFaultOf bytes (faults.Bad 3)
    no_base not = fault_next SoFar.nothing 0 bytes (version ∷ field d ∷ []) two (faults.Bad 3) found_two (tt, (second.1, tt)) (refl, bad_base d two not)

    module _ (at : Point) (three : List ℕ) (third : IsTaken base IsBasePoint two at three) where
      found_three : bytes ≡ lines_then (version ∷ field d ∷ base at ∷ []) three
      found_three = found_two ∙ ap (λ (l : List ℕ). line_text version ++ 10 ∷ (line_text (field d) ++ 10 ∷ l)) third.0

      pub no_class_count : IsNotTaken class_count IsClassCount three → IsFaultOf bytes (faults.Bad 4)
      no_class_count not =
          fault_next SoFar.nothing 0 bytes (version ∷ field d ∷ base at ∷ []) three (faults.Bad 4) found_three (tt, (second.1, (third.1, tt))) (refl, bad_class_count d three not)

      pub head_read : (n : ℕ) (four : List ℕ) → IsTaken class_count IsClassCount three n four → (bytes ≡ lines_then (head_lines d at n) four) × AllFollow SoFar.nothing (head_lines d at n)
      head_read n four fourth = (
        found_three ∙ ap (λ (l : List ℕ). line_text version ++ 10 ∷ (line_text (field d) ++ 10 ∷ (line_text (base at) ++ 10 ∷ l))) fourth.0,
        (tt, (second.1, (third.1, (fourth.1, tt)))),
      )

-- ---- classes
-- what has been read of the classes that are wanted
pub record ClassesSoFar (d wanted : ℕ) (bytes : List ℕ) (codes : List (List ℤ)) (rest : List ℕ) : Type 0 where
  pub found : bytes ≡ lines_then (map class codes) rest
  pub follow : AllFollow (SoFar.classes d wanted []) (map class codes)
  pub enough : length codes < wanted + 1
  pub made : AllByRecursion (IsMade d) codes

pub no_class : (d wanted : ℕ) (bytes : List ℕ) → ClassesSoFar d wanted bytes [] bytes
no_class d wanted bytes = record { found = refl; follow = tt; enough = omega arith; made = tt }

all_more : {X : Type 0} (P : X → Type 0) (xs : List X) (x : X) → AllByRecursion P xs → P x → AllByRecursion P (xs ++ x ∷ [])
all_more P [] x all p = (p, tt)
all_more P (y ∷ xs) x all p = (all.0, all_more P xs x all.1 p)

module _ (d wanted : ℕ) (bytes : List ℕ) (codes : List (List ℤ)) (rest : List ℕ) (was : ClassesSoFar d wanted bytes codes rest) where
  behind : with_lines (SoFar.classes d wanted []) (map class codes) ≡ SoFar.classes d wanted codes
  behind = with_classes d wanted [] codes

  pub one_class : (code : List ℤ) (after : List ℕ) → length codes < wanted → rest ≡ line_text (class code) ++ 10 ∷ after → IsClass d code → IsAboveLast codes code → IsMade d code
      → ClassesSoFar d wanted bytes (codes ++ code ∷ []) after
  one_class code after low e is above made =
      let lines : map class (codes ++ code ∷ []) ≡ map class codes ++ class code ∷ [] = map-append class codes (code ∷ []) in
      let long = length-append codes (code ∷ []) in
      record {
        found = lines_more bytes (map class codes) rest (class code) after was.found e ∙ ap (λ (l : List Line). lines_then l after) (sym lines);
        follow =
            subst (AllFollow (SoFar.classes d wanted [])) (sym lines)
            (follow_append (SoFar.classes d wanted []) (map class codes) (class code ∷ []) was.follow (subst (λ (so : SoFar). AllFollow so (class code ∷ [])) (sym behind) ((low, is, above), tt)));
        enough = omega (arith, long, low);
        made = all_more (IsMade d) codes code was.made made;
      }

  pub class_refused : (line : ℕ) (fault : ReportFault) → line ≡ length codes + 5 → IsNextFault (SoFar.classes d wanted codes) rest line fault
      → IsFaultBehind (SoFar.classes d wanted []) 4 bytes fault
  class_refused line fault number is =
      let long : length (map class codes) ≡ length codes = length-map codes class in
      let same : line ≡ 4 + length (map class codes) + 1 = omega (arith, number, long) in
      fault_next (SoFar.classes d wanted []) 4 bytes (map class codes) rest fault was.found was.follow
      (subst (λ (k : ℕ). IsNextFault (with_lines (SoFar.classes d wanted []) (map class codes)) rest k fault) same (subst (λ (so : SoFar). IsNextFault so rest line fault) (sym behind) is))

  pub all_classes : ¬ (length codes < wanted) → AreClassesRead d wanted bytes codes rest
  all_classes full = let enough = was.enough in record { found = was.found; follow = was.follow; enough = omega (arith, enough, full); made = was.made }

-- ---- matrices
pub record MatricesSoFar (wanted : ℕ) (bytes : List ℕ) (mats : List FieldMatrix) (rest : List ℕ) : Type 0 where
  pub found : bytes ≡ lines_then (map matrix mats) rest
  pub follow : AllFollow (SoFar.matrices wanted 0) (map matrix mats)
  pub enough : length mats < wanted + 1

pub no_matrix : (wanted : ℕ) (bytes : List ℕ) → MatricesSoFar wanted bytes [] bytes
no_matrix wanted bytes = record { found = refl; follow = tt; enough = omega arith }

module _ (wanted : ℕ) (bytes : List ℕ) (mats : List FieldMatrix) (rest : List ℕ) (was : MatricesSoFar wanted bytes mats rest) where
  behind_some : with_lines (SoFar.matrices wanted 0) (map matrix mats) ≡ SoFar.matrices wanted (length mats)
  behind_some = with_matrices wanted 0 mats ∙ (let e : 0 + length mats ≡ length mats = omega arith in ap (SoFar.matrices wanted) e)

  pub one_matrix : (m : FieldMatrix) (after : List ℕ) → length mats < wanted → IsTaken matrix IsMatrix rest m after → MatricesSoFar wanted bytes (mats ++ m ∷ []) after
  one_matrix m after low taken =
      let lines : map matrix (mats ++ m ∷ []) ≡ map matrix mats ++ matrix m ∷ [] = map-append matrix mats (m ∷ []) in
      let long = length-append mats (m ∷ []) in
      record {
        found = lines_more bytes (map matrix mats) rest (matrix m) after was.found taken.0 ∙ ap (λ (l : List Line). lines_then l after) (sym lines);
        follow =
            subst (AllFollow (SoFar.matrices wanted 0)) (sym lines)
            (follow_append (SoFar.matrices wanted 0) (map matrix mats) (matrix m ∷ []) was.follow (subst (λ (so : SoFar). AllFollow so (matrix m ∷ [])) (sym behind_some) ((low, taken.1), tt)));
        enough = omega (arith, long, low);
      }

  pub matrix_refused : (passed line : ℕ) → length mats < wanted → line ≡ passed + length mats + 1 → IsNotTaken matrix IsMatrix rest → IsFaultBehind (SoFar.matrices wanted 0) passed bytes (faults.Bad line)
  matrix_refused passed line low number not =
      let long : length (map matrix mats) ≡ length mats = length-map mats matrix in
      let same : line ≡ passed + length (map matrix mats) + 1 = omega (arith, number, long) in
      fault_next (SoFar.matrices wanted 0) passed bytes (map matrix mats) rest (faults.Bad line) was.found was.follow
      (same, subst (λ (so : SoFar). IsBad so rest) (sym behind_some) (bad_matrix wanted (length mats) rest low not))

  pub all_matrices : ¬ (length mats < wanted) → AreMatricesRead wanted bytes mats rest
  all_matrices full = let enough = was.enough in record { found = was.found; follow = was.follow; enough = omega (arith, enough, full) }

-- ---- the whole
module _ (bytes : List ℕ) (d : ℕ) (at : Point) (n : ℕ) (rest : List ℕ) (found : bytes ≡ lines_then (head_lines d at n) rest) (follow : AllFollow SoFar.nothing (head_lines d at n)) where
  pub behind_head : (fault : ReportFault) → IsFaultBehind (SoFar.classes d n []) 4 rest fault → IsFaultOf bytes fault
  behind_head fault is = fault_deeper SoFar.nothing 0 bytes (head_lines d at n) rest fault found follow is

  module _ (codes : List (List ℤ)) (after : List ℕ) (are : AreClassesRead d n rest codes after) where
    abbrev with_codes : List Line
    with_codes = head_lines d at n ++ map class codes

    found_codes : bytes ≡ lines_then with_codes after
    found_codes = found ∙ ap (lines_then (head_lines d at n)) are.found ∙ sym (lines_append (head_lines d at n) (map class codes) after)

    follow_codes : AllFollow SoFar.nothing with_codes
    follow_codes = follow_append SoFar.nothing (head_lines d at n) (map class codes) follow are.follow

    so_codes : with_lines SoFar.nothing with_codes ≡ SoFar.classes d n codes
    so_codes = with_append SoFar.nothing (head_lines d at n) (map class codes) ∙ with_classes d n [] codes

    count_codes : length with_codes ≡ 4 + length codes
    count_codes = let long = length-append (head_lines d at n) (map class codes) in let same : length (map class codes) ≡ length codes = length-map codes class in omega (arith, long, same)

    pub no_count : (line : ℕ) → line ≡ length codes + 5 → IsNotTaken matrix_count IsWithin after → IsFaultOf bytes (faults.Bad line)
    no_count line number not =
        let same : line ≡ 0 + length with_codes + 1 = omega (arith, number, count_codes) in
        fault_next SoFar.nothing 0 bytes with_codes after (faults.Bad line) found_codes follow_codes
        (same, subst (λ (so : SoFar). IsBad so after) (sym so_codes) (bad_matrix_count d n codes after are.enough not))

    module _ (m : ℕ) (tail : List ℕ) (taken : IsTaken matrix_count IsWithin after m tail) where
      abbrev with_count : List Line
      with_count = with_codes ++ matrix_count m ∷ []

      found_count : bytes ≡ lines_then with_count tail
      found_count = lines_more bytes with_codes after (matrix_count m) tail found_codes taken.0

      follow_count : AllFollow SoFar.nothing with_count
      follow_count =
          follow_append SoFar.nothing with_codes (matrix_count m ∷ []) follow_codes
          (subst (λ (so : SoFar). AllFollow so (matrix_count m ∷ [])) (sym so_codes) ((are.enough, taken.1), tt))

      so_count : with_lines SoFar.nothing with_count ≡ SoFar.matrices m 0
      so_count = with_append SoFar.nothing with_codes (matrix_count m ∷ []) ∙ ap (λ (so : SoFar). with_lines so (matrix_count m ∷ [])) so_codes

      count_count : length with_count ≡ 5 + length codes
      count_count = let long = length-append with_codes (matrix_count m ∷ []) in omega (arith, long, count_codes)

      pub behind_count : (passed : ℕ) (fault : ReportFault) → passed ≡ length codes + 5 → IsFaultBehind (SoFar.matrices m 0) passed tail fault → IsFaultOf bytes fault
      behind_count passed fault number is =
          let same : passed ≡ 0 + length with_count = omega (arith, number, count_count) in
          fault_deeper SoFar.nothing 0 bytes with_count tail fault found_count follow_count
          (subst (λ (k : ℕ). IsFaultBehind (with_lines SoFar.nothing with_count) k tail fault) same (subst (λ (so : SoFar). IsFaultBehind so passed tail fault) (sym so_count) is))

      module _ (mats : List FieldMatrix) (last : List ℕ) (they : AreMatricesRead m tail mats last) where
        abbrev with_mats : List Line
        with_mats = with_count ++ map matrix mats

        found_mats : bytes ≡ lines_then with_mats last
        found_mats = found_count ∙ ap (lines_then with_count) they.found ∙ sym (lines_append with_count (map matrix mats) last)

        follow_mats : AllFollow SoFar.nothing with_mats
        follow_mats = follow_append SoFar.nothing with_count (map matrix mats) follow_count (subst (λ (so : SoFar). AllFollow so (map matrix mats)) (sym so_count) they.follow)

        so_mats : with_lines SoFar.nothing with_mats ≡ SoFar.matrices m (length mats)
        so_mats =
            with_append SoFar.nothing with_count (map matrix mats) ∙ ap (λ (so : SoFar). with_lines so (map matrix mats)) so_count ∙ with_matrices m 0 mats
            ∙ (let e : 0 + length mats ≡ length mats = omega arith in ap (SoFar.matrices m) e)

        count_mats : length with_mats ≡ 5 + length codes + length mats
        count_mats = let long = length-append with_count (map matrix mats) in let same : length (map matrix mats) ≡ length mats = length-map mats matrix in omega (arith, long, same, count_count)

        pub no_end : (line : ℕ) → line ≡ length codes + length mats + 6 → ((left : List ℕ) → last ≢ line_text end ++ 10 ∷ left) → IsFaultOf bytes (faults.Bad line)
        no_end line number not =
            let same : line ≡ 0 + length with_mats + 1 = omega (arith, number, count_mats) in
            fault_next SoFar.nothing 0 bytes with_mats last (faults.Bad line) found_mats follow_mats
            (same, subst (λ (so : SoFar). IsBad so last) (sym so_mats) (bad_end m (length mats) last they.enough not))

        module _ (left : List ℕ) (ends : last ≡ line_text end ++ 10 ∷ left) where
          abbrev with_end : List Line
          with_end = with_mats ++ end ∷ []

          found_end : bytes ≡ lines_then with_end left
          found_end = lines_more bytes with_mats last end left found_mats ends

          follow_end : AllFollow SoFar.nothing with_end
          follow_end =
              follow_append SoFar.nothing with_mats (end ∷ []) follow_mats (subst (λ (so : SoFar). AllFollow so (end ∷ [])) (sym so_mats) (they.enough, tt))

          so_end : with_lines SoFar.nothing with_end ≡ SoFar.whole
          so_end = with_append SoFar.nothing with_mats (end ∷ []) ∙ ap (λ (so : SoFar). with_lines so (end ∷ [])) so_mats

          pub bytes_left : (line : ℕ) → line ≡ length codes + length mats + 7 → left ≢ [] → IsFaultOf bytes (faults.Bad line)
          bytes_left line number some =
              let long = length-append with_mats (end ∷ []) in
              let same : line ≡ 0 + length with_end + 1 = omega (arith, number, long, count_mats) in
              fault_next SoFar.nothing 0 bytes with_end left (faults.Bad line) found_end follow_end
              (same, subst (λ (so : SoFar). IsBad so left) (sym so_end) (bad_late left some))

          -- the lines are those of the report
          lines_are : with_end ≡ report_lines d at codes mats
          lines_are =
              append_assoc with_count (map matrix mats) (end ∷ [])
              ∙ append_assoc with_codes (matrix_count m ∷ []) (map matrix mats ++ end ∷ [])
              ∙ append_assoc (head_lines d at n) (map class codes) (matrix_count m ∷ (map matrix mats ++ end ∷ []))
              ∙ ap (λ (k : ℕ). head_lines d at k ++ (map class codes ++ matrix_count m ∷ (map matrix mats ++ end ∷ []))) (sym are.enough)
              ∙ ap (λ (k : ℕ). head_lines d at (length codes) ++ (map class codes ++ matrix_count k ∷ (map matrix mats ++ end ∷ []))) (sym they.enough)

          pub whole_read : left ≡ [] → (bytes ≡ report_text d at codes mats) × IsReport d at codes mats
          whole_read none = (
            found_end ∙ ap (lines_then with_end) none ∙ ap (λ (l : List Line). lines_then l []) lines_are ∙ sym (text_of_lines d at codes mats),
            limits_of d at codes mats (subst (AllFollow SoFar.nothing) lines_are follow_end),
          )
