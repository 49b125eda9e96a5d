-- The text of a report is that of its lines, and of no other report.
use Rattle.std.proofs.Common.{◌≡◌, ℕ, List, [], ◌∷◌, ◌++◌, map, length, drop, codes, refl, ap, sym, ◌∙◌, append_assoc}
use Rattle.std.specs.Prelude.{ℤ}
use Rattle.std.specs.List.{flat_map}
use Rattle.std.proofs.lemmas.List.{append-nil}
use Rattle.plane.specs.Matrices.{FieldMatrix}
use Rattle.plane.specs.Spelling.{natural_text}
use Rattle.surface_text.specs.declared.file.Point.{Point}
use Rattle.surface_text.specs.Spelling.{point_text}
use Rattle.report_text.specs.Reports.{class_text, class_line, matrix_text, matrix_line, report_text}
use Rattle.report_text.specs.Lines.{Line, line_text, lines_then, tail_lines, report_lines}
use Rattle.report_text.specs.Lines.Line.{version, field, base, class_count, class, matrix_count, matrix, end}
use Rattle.report_text.proofs.Bytes.{no_bytes}
use Rattle.report_text.proofs.LineTexts.{front_line}
use Rattle.report_text.proofs.Follows.{lines_append}

class_lines_text : (classes : List (List ℤ)) (rest : List ℕ) → lines_then (map class classes) rest ≡ flat_map class_line classes ++ rest
class_lines_text [] rest = refl
class_lines_text (code ∷ classes) rest =
    ap (λ (l : List ℕ). class_text code ++ 10 ∷ l) (class_lines_text classes rest)
    ∙ sym (append_assoc (class_text code) (10 ∷ []) (flat_map class_line classes ++ rest))
    ∙ sym (append_assoc (class_line code) (flat_map class_line classes) rest)

matrix_lines_text : (matrices : List FieldMatrix) (rest : List ℕ) → lines_then (map matrix matrices) rest ≡ flat_map matrix_line matrices ++ rest
matrix_lines_text [] rest = refl
matrix_lines_text (m ∷ matrices) rest =
    ap (λ (l : List ℕ). matrix_text m ++ 10 ∷ l) (matrix_lines_text matrices rest)
    ∙ sym (append_assoc (matrix_text m) (10 ∷ []) (flat_map matrix_line matrices ++ rest))
    ∙ sym (append_assoc (matrix_line m) (flat_map matrix_line matrices) rest)

-- the parts of a text, joined from the left and from the right
joined : (d at n classes m matrices : List ℕ)
    → (codes "veech 1\nfield " ++ (d ++ (codes "\nbase " ++ (at ++ (codes "\n" ++ [])))))
    ++ ((codes "classes " ++ (n ++ (codes "\n" ++ (classes ++ [])))) ++ ((codes "matrices " ++ (m ++ (codes "\n" ++ (matrices ++ [])))) ++ (codes "end\n" ++ [])))
    ≡ codes "veech 1" ++ 10 ∷ ((codes "field " ++ d) ++ 10 ∷ ((codes "base " ++ at) ++ 10 ∷ ((codes "classes " ++ n) ++ 10 ∷ (classes ++ ((codes "matrices " ++ m) ++ 10 ∷ (matrices ++ codes "end\n"))))))
joined d at n classes m matrices = simp (append_assoc, append-nil)

pub text_of_lines : (d : ℕ) (at : Point) (classes : List (List ℤ)) (matrices : List FieldMatrix) → report_text d at classes matrices ≡ lines_then (report_lines d at classes matrices) []
text_of_lines d at classes matrices =
    joined (natural_text d) (point_text at) (natural_text (length classes)) (flat_map class_line classes) (natural_text (length matrices)) (flat_map matrix_line matrices)
    ∙ ap (λ (l : List ℕ). line_text version ++ 10 ∷ (line_text (field d) ++ 10 ∷ (line_text (base at) ++ 10 ∷ (line_text (class_count (length classes)) ++ 10 ∷ l))))
    (ap (λ (l : List ℕ). flat_map class_line classes ++ (line_text (matrix_count (length matrices)) ++ 10 ∷ l))
    (sym (matrix_lines_text matrices (codes "end\n")) ∙ sym (lines_append (map matrix matrices) (end ∷ []) []))
    ∙ sym (class_lines_text classes (lines_then (tail_lines matrices) [])) ∙ sym (lines_append (map class classes) (tail_lines matrices) []))

-- lines with one text are the same
lines_same : (xs ys : List Line) → lines_then xs [] ≡ lines_then ys [] → xs ≡ ys
lines_same [] [] e = refl
lines_same [] (y ∷ ys) e = absurd (no_bytes (line_text y) (lines_then ys []) e)
lines_same (x ∷ xs) [] e = absurd (no_bytes (line_text x) (lines_then xs []) (sym e))
lines_same (x ∷ xs) (y ∷ ys) e =
    let heads = front_line x y (lines_then xs []) (lines_then ys []) e in
    let first : x ≡ y = heads.0 in
    let others : xs ≡ ys = lines_same xs ys heads.1 in cc

-- the number of the field, the point, the codes and the matrices that lines say
abbrev number_in : List Line → ℕ
number_in (first ∷ field d ∷ lines) = d
number_in lines = 0

abbrev point_in : Point → List Line → Point
point_in at (first ∷ second ∷ base to ∷ lines) = to
point_in at lines = at

abbrev classes_in : List Line → List (List ℤ)
classes_in [] = []
classes_in (class code ∷ lines) = code ∷ classes_in lines
classes_in (line ∷ lines) = classes_in lines

abbrev matrices_in : List Line → List FieldMatrix
matrices_in [] = []
matrices_in (matrix m ∷ lines) = m ∷ matrices_in lines
matrices_in (line ∷ lines) = matrices_in lines

no_classes : (matrices : List FieldMatrix) → classes_in (map matrix matrices ++ end ∷ []) ≡ []
no_classes [] = refl
no_classes (m ∷ matrices) = no_classes matrices

classes_back : (classes : List (List ℤ)) (matrices : List FieldMatrix) → classes_in (map class classes ++ tail_lines matrices) ≡ classes
classes_back [] matrices = no_classes matrices
classes_back (code ∷ classes) matrices = ap (λ (l : List (List ℤ)). code ∷ l) (classes_back classes matrices)

all_matrices : (matrices : List FieldMatrix) → matrices_in (map matrix matrices ++ end ∷ []) ≡ matrices
all_matrices [] = refl
all_matrices (m ∷ matrices) = ap (λ (l : List FieldMatrix). m ∷ l) (all_matrices matrices)

matrices_back : (classes : List (List ℤ)) (matrices : List FieldMatrix) → matrices_in (map class classes ++ tail_lines matrices) ≡ matrices
matrices_back [] matrices = all_matrices matrices
matrices_back (code ∷ classes) matrices = matrices_back classes matrices

-- reports with one text are the same
pub one_report : (d e : ℕ) (at to : Point) (classes others : List (List ℤ)) (matrices more : List FieldMatrix) → report_text d at classes matrices ≡ report_text e to others more
    → (d ≡ e) × (at ≡ to) × (classes ≡ others) × (matrices ≡ more)
one_report d e at to classes others matrices more same =
    let lines : report_lines d at classes matrices ≡ report_lines e to others more =
    lines_same (report_lines d at classes matrices) (report_lines e to others more) (sym (text_of_lines d at classes matrices) ∙ same ∙ text_of_lines e to others more) in
    let behind : map class classes ++ tail_lines matrices ≡ map class others ++ tail_lines more = ap (drop 4) lines in
    (ap number_in lines, ap (point_in at) lines, sym (classes_back classes matrices) ∙ ap classes_in behind ∙ classes_back others more, sym (matrices_back classes matrices) ∙ ap matrices_in behind ∙ matrices_back others more)
