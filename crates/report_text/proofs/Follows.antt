-- Lines that may follow one another, and the limits that they keep to.
use Rattle.std.proofs.Common.{◌≡◌, ℕ, suc, ◌+◌, ◌<◌, ◌≤◌, List, [], ◌∷◌, ◌++◌, map, length, refl, ap, sym, ◌∙◌, subst, arith, append_assoc}
use Rattle.std.specs.Prelude.{ℤ}
use Rattle.std.specs.List.{AllByRecursion}
use Rattle.std.proofs.lemmas.List.{append-nil, length-append}
use Rattle.plane.specs.Matrices.{FieldMatrix}
use Rattle.surface_text.specs.declared.file.Point.{Point}
use Rattle.report_text.specs.Lines.{Line, line_text, lines_then, tail_lines, report_lines}
use Rattle.report_text.specs.Lines.Line.{class, matrix, end}
use Rattle.report_text.specs.Limits.{IsClass, IsAboveLast, IsAscending, IsMatrix, IsReport}
use Rattle.report_text.specs.Following.{SoFar, MayFollow, with_line, with_lines, AllFollow}

-- ---- lines behind lines
pub lines_append : (xs ys : List Line) (rest : List ℕ) → lines_then (xs ++ ys) rest ≡ lines_then xs (lines_then ys rest)
lines_append [] ys rest = refl
lines_append (x ∷ xs) ys rest = ap (λ (l : List ℕ). line_text x ++ 10 ∷ l) (lines_append xs ys rest)

pub with_append : (so : SoFar) (xs ys : List Line) → with_lines so (xs ++ ys) ≡ with_lines (with_lines so xs) ys
with_append so [] ys = refl
with_append so (x ∷ xs) ys = with_append (with_line so x) xs ys

pub follow_append : (so : SoFar) (xs ys : List Line) → AllFollow so xs → AllFollow (with_lines so xs) ys → AllFollow so (xs ++ ys)
follow_append so [] ys left right = right
follow_append so (x ∷ xs) ys left right = (left.0, follow_append (with_line so x) xs ys left.1 right)

pub follow_behind : (so : SoFar) (xs ys : List Line) → AllFollow so (xs ++ ys) → AllFollow (with_lines so xs) ys
follow_behind so [] ys all = all
follow_behind so (x ∷ xs) ys all = follow_behind (with_line so x) xs ys all.1

pub follow_front : (so : SoFar) (xs ys : List Line) → AllFollow so (xs ++ ys) → AllFollow so xs
follow_front so [] ys all = tt
follow_front so (x ∷ xs) ys all = (all.0, follow_front (with_line so x) xs ys all.1)

pub follow_more : (so : SoFar) (xs : List Line) (x : Line) → AllFollow so xs → MayFollow (with_lines so xs) x → AllFollow so (xs ++ x ∷ [])
follow_more so xs x all may = follow_append so xs (x ∷ []) all (may, tt)

-- ---- what class lines and matrix lines say
pub with_classes : (d n : ℕ) (come more : List (List ℤ)) → with_lines (SoFar.classes d n come) (map class more) ≡ SoFar.classes d n (come ++ more)
with_classes d n come [] = ap (SoFar.classes d n) (sym (append-nil come))
with_classes d n come (code ∷ more) = with_classes d n (come ++ code ∷ []) more ∙ ap (SoFar.classes d n) (append_assoc come (code ∷ []) more)

pub with_matrices : (m come : ℕ) (more : List FieldMatrix) → with_lines (SoFar.matrices m come) (map matrix more) ≡ SoFar.matrices m (come + length more)
with_matrices m come [] = let e : come ≡ come + 0 = omega arith in ap (SoFar.matrices m) e
with_matrices m come (a ∷ more) =
    let e : come + 1 + length more ≡ come + suc (length more) = omega arith in with_matrices m (come + 1) more ∙ ap (SoFar.matrices m) e

-- ---- ascending codes
ascending_more : (come : List (List ℤ)) (code : List ℤ) → IsAscending come → IsAboveLast come code → IsAscending (come ++ code ∷ [])
ascending_more [] code up above = tt
ascending_more (last ∷ []) code up above = (above, tt)
ascending_more (one ∷ next ∷ come) code up above = (up.0, ascending_more (next ∷ come) code up.1 above)

above_last : (come : List (List ℤ)) (code : List ℤ) (more : List (List ℤ)) → IsAscending (come ++ code ∷ more) → IsAboveLast come code
above_last [] code more up = tt
above_last (last ∷ []) code more up = up.0
above_last (one ∷ next ∷ come) code more up = above_last (next ∷ come) code more up.1

-- ---- class lines that may follow have codes within the limits, ascending
classes_all : (d n : ℕ) (come more : List (List ℤ)) → AllFollow (SoFar.classes d n come) (map class more) → AllByRecursion (IsClass d) more
classes_all d n come [] all = tt
classes_all d n come (code ∷ more) all = (all.0.1, classes_all d n (come ++ code ∷ []) more all.1)

classes_up : (d n : ℕ) (come more : List (List ℤ)) → IsAscending come → AllFollow (SoFar.classes d n come) (map class more) → IsAscending (come ++ more)
classes_up d n come [] up all = subst IsAscending (sym (append-nil come)) up
classes_up d n come (code ∷ more) up all =
    subst IsAscending (append_assoc come (code ∷ []) more) (classes_up d n (come ++ code ∷ []) more (ascending_more come code up all.0.2) all.1)

classes_follow : (d n : ℕ) (come more : List (List ℤ)) → length come + length more ≤ n → AllByRecursion (IsClass d) more → IsAscending (come ++ more)
    → AllFollow (SoFar.classes d n come) (map class more)
classes_follow d n come [] few all up = tt
classes_follow d n come (code ∷ more) few all up =
    let one = length-append come (code ∷ []) in (
      (omega arith, all.0, above_last come code more up),
      classes_follow d n (come ++ code ∷ []) more (omega arith) all.1 (subst IsAscending (sym (append_assoc come (code ∷ []) more)) up),
    )

-- ---- matrix lines likewise
matrices_all : (m come : ℕ) (more : List FieldMatrix) (lines : List Line) → AllFollow (SoFar.matrices m come) (map matrix more ++ lines) → AllByRecursion IsMatrix more
matrices_all m come [] lines all = tt
matrices_all m come (a ∷ more) lines all = (all.0.1, matrices_all m (come + 1) more lines all.1)

matrices_follow : (m come : ℕ) (more : List FieldMatrix) → come + length more ≡ m → AllByRecursion IsMatrix more → AllFollow (SoFar.matrices m come) (map matrix more ++ end ∷ [])
matrices_follow m come [] count all = let e : come ≡ m = omega arith in (e, tt)
matrices_follow m come (a ∷ more) count all =
    let below : come < m = omega arith in ((below, all.0), matrices_follow m (come + 1) more (omega arith) all.1)

-- ---- the lines of a report
module _ (d : ℕ) (at : Point) (classes : List (List ℤ)) (matrices : List FieldMatrix) where
  abbrev after_head : SoFar
  after_head = SoFar.classes d (length classes) []

  behind_classes : with_lines after_head (map class classes) ≡ SoFar.classes d (length classes) classes
  behind_classes = with_classes d (length classes) [] classes

  -- where they may follow one another, the report is within the limits
  pub limits_of : AllFollow SoFar.nothing (report_lines d at classes matrices) → IsReport d at classes matrices
  limits_of all =
      let rest = all.1.1.1.1 in
      let front = follow_front after_head (map class classes) (tail_lines matrices) rest in
      let tail = subst (λ (so : SoFar). AllFollow so (tail_lines matrices)) behind_classes (follow_behind after_head (map class classes) (tail_lines matrices) rest) in
      record {
        field = all.1.0;
        point = all.1.1.0;
        some = all.1.1.1.0.0;
        codes = classes_all d (length classes) [] classes front;
        ascending = classes_up d (length classes) [] classes tt front;
        matrices_are = matrices_all (length matrices) 0 matrices (end ∷ []) tail.1;
        few_classes = all.1.1.1.0.1;
        few_matrices = tail.0.1;
      }

  -- and the other way round
  pub follow_of : IsReport d at classes matrices → AllFollow SoFar.nothing (report_lines d at classes matrices)
  follow_of is =
      let tail : AllFollow (SoFar.classes d (length classes) classes) (tail_lines matrices) =
      ((refl, is.few_matrices), matrices_follow (length matrices) 0 matrices (omega arith) is.matrices_are) in
      let rest : AllFollow after_head (map class classes ++ tail_lines matrices) =
      follow_append after_head (map class classes) (tail_lines matrices)
      (classes_follow d (length classes) [] classes (omega arith) is.codes is.ascending)
      (subst (λ (so : SoFar). AllFollow so (tail_lines matrices)) (sym behind_classes) tail) in (tt, (is.field, (is.point, ((is.some, is.few_classes), rest))))

  -- behind them the report is whole
  pub whole_of : with_lines SoFar.nothing (report_lines d at classes matrices) ≡ SoFar.whole
  whole_of =
      with_append after_head (map class classes) (tail_lines matrices)
      ∙ ap (λ (so : SoFar). with_lines so (tail_lines matrices)) behind_classes
      ∙ with_append (SoFar.matrices (length matrices) 0) (map matrix matrices) (end ∷ [])
      ∙ ap (λ (so : SoFar). with_lines so (end ∷ [])) (with_matrices (length matrices) 0 matrices)
