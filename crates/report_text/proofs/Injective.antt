-- One value for one text: base points, codes and matrices.
use Rattle.std.proofs.Common.{◌≡◌, ◌≢◌, ℕ, ℤ, pos, negsuc, List, [], ◌∷◌, ◌++◌, length, codes, refl, ap, sym, ◌∙◌, arith, append_assoc}
use Rattle.std.proofs.lemmas.List.{append-nil, append_cancel_left}
use Rattle.quad_field.specs.declared.quad.Quad.{Quad}
use Rattle.plane.specs.Matrices.{FieldMatrix}
use Rattle.plane.specs.Spelling.{natural_text, whole_text, quad_text}
use Rattle.plane.proofs.CallerLemmas.{natural_text_some, natural_text_injective, whole_injective, quad_injective, whole_text_no_space, quad_text_no_space}
use Rattle.surface_text.specs.declared.file.Point.{Point}
use Rattle.surface_text.specs.Spelling.{Content, point_text}
use Rattle.surface_text.specs.Spelling as files
use Rattle.surface_text.proofs.CallerLemmas.{one_file}
use Rattle.canon_code.specs.CodeText.{spaced_text, numbers_text}
use Rattle.report_text.specs.Reports.{matrix_text}
use Rattle.report_text.specs.Readings.{spaced_entries}
use Rattle.report_text.proofs.Bytes.{one_front}

-- ---- base points
-- a file with this base point alone
abbrev file_at : Point → Content
file_at at = record { field = 0; bases = at ∷ []; polygons = []; glues = [] }

-- its text around that of the point
abbrev around : List ℕ → List ℕ
around point =
    files.line_text files.Line.flat ++ 10 ∷ (files.line_text (files.Line.field 0) ++ 10 ∷ ((codes "base " ++ point) ++ 10 ∷ (files.line_text files.Line.end ++ 10 ∷ [])))

pub point_injective : (a b : Point) → point_text a ≡ point_text b → a ≡ b
point_injective a b e =
    let texts : files.text (file_at a) ≡ files.text (file_at b) = ap around e in
    let same : a ∷ [] ≡ b ∷ [] = ap (λ (file : Content). file.bases) (one_file (file_at a) (file_at b) texts) in cc

-- ---- codes
-- whole numbers, each with a space behind it
abbrev closed : List ℤ → List ℕ
closed [] = []
closed (n ∷ numbers) = whole_text n ++ 32 ∷ closed numbers

closes : (n : ℤ) (numbers : List ℤ) → (whole_text n ++ spaced_text numbers) ++ 32 ∷ [] ≡ closed (n ∷ numbers)
closes n [] = ap (λ (l : List ℕ). l ++ 32 ∷ []) (append-nil (whole_text n))
closes n (m ∷ numbers) =
    append_assoc (whole_text n) (32 ∷ (whole_text m ++ spaced_text numbers)) (32 ∷ []) ∙ ap (λ (l : List ℕ). whole_text n ++ 32 ∷ l) (closes m numbers)

whole_some : (n : ℤ) → [] ≢ whole_text n
whole_some (pos n) e = let some = natural_text_some n in let none : 0 ≡ length (natural_text n) = ap length e in omega (arith, some, none)
whole_some (negsuc n) e = absurd (cc)

nothing : (xs r : List ℕ) → [] ≢ xs ++ 32 ∷ r
nothing [] r e = absurd (cc)
nothing (x ∷ xs) r e = absurd (cc)

closed_injective : (ns ms : List ℤ) → closed ns ≡ closed ms → ns ≡ ms
closed_injective [] [] e = refl
closed_injective [] (m ∷ ms) e = absurd (nothing (whole_text m) (closed ms) e)
closed_injective (n ∷ ns) [] e = absurd (nothing (whole_text n) (closed ns) (sym e))
closed_injective (n ∷ ns) (m ∷ ms) e =
    let f = one_front 32 (whole_text n) (whole_text m) (closed ns) (closed ms) (whole_text_no_space n) (whole_text_no_space m) e in
    let head : n ≡ m = whole_injective n m f.0 in
    let others : ns ≡ ms = closed_injective ns ms f.1 in cc

no_numbers : (m : ℤ) (ms : List ℤ) → [] ≢ numbers_text (m ∷ ms)
no_numbers m ms e =
    let f = one_front 32 [] (whole_text m) [] (closed ms) tt (whole_text_no_space m) (ap (λ (l : List ℕ). l ++ 32 ∷ []) e ∙ closes m ms) in whole_some m f.0

pub numbers_injective : (ns ms : List ℤ) → numbers_text ns ≡ numbers_text ms → ns ≡ ms
numbers_injective [] [] e = refl
numbers_injective [] (m ∷ ms) e = absurd (no_numbers m ms e)
numbers_injective (n ∷ ns) [] e = absurd (no_numbers n ns (sym e))
numbers_injective (n ∷ ns) (m ∷ ms) e = closed_injective (n ∷ ns) (m ∷ ms) (sym (closes n ns) ∙ ap (λ (l : List ℕ). l ++ 32 ∷ []) e ∙ closes m ms)

-- ---- matrices
pub matrix_shape : (m : FieldMatrix) → matrix_text m ≡ spaced_entries m.rows.0 m.rows.1 m.rows.2 m.rows.3 (natural_text m.denominator)
matrix_shape m = simp (append_assoc, append-nil)

-- numbers before a space are one
pub one_entry : (x y : Quad) (r s : List ℕ) → quad_text x ++ 32 ∷ r ≡ quad_text y ++ 32 ∷ s → (x ≡ y) × (r ≡ s)
one_entry x y r s e =
    let f = one_front 32 (quad_text x) (quad_text y) r s (quad_text_no_space x) (quad_text_no_space y) e in (quad_injective x y f.0, f.1)

-- so the four numbers are one, and the word behind them
pub record AreSame (a b c d e f g h : Quad) (word other : List ℕ) : Type 0 where
  pub first : a ≡ e
  pub second : b ≡ f
  pub third : c ≡ g
  pub fourth : d ≡ h
  pub behind : word ≡ other

pub one_four : (a b c d e f g h : Quad) (word other : List ℕ) → spaced_entries a b c d word ≡ spaced_entries e f g h other → AreSame a b c d e f g h word other
one_four a b c d e f g h word other same =
    let one =
    one_entry a e (quad_text b ++ 32 ∷ (quad_text c ++ 32 ∷ (quad_text d ++ 32 ∷ word))) (quad_text f ++ 32 ∷ (quad_text g ++ 32 ∷ (quad_text h ++ 32 ∷ other)))
    (append_cancel_left (codes "matrix ") _ _ same) in
    let two = one_entry b f (quad_text c ++ 32 ∷ (quad_text d ++ 32 ∷ word)) (quad_text g ++ 32 ∷ (quad_text h ++ 32 ∷ other)) one.1 in
    let three = one_entry c g (quad_text d ++ 32 ∷ word) (quad_text h ++ 32 ∷ other) two.1 in
    let four = one_entry d h word other three.1 in
    record { first = one.0; second = two.0; third = three.0; fourth = four.0; behind = four.1 }

-- matrices with the same fields are the same
pub same_matrix : (m o : FieldMatrix) → m.rows.0 ≡ o.rows.0 → m.rows.1 ≡ o.rows.1 → m.rows.2 ≡ o.rows.2 → m.rows.3 ≡ o.rows.3 → m.denominator ≡ o.denominator → m ≡ o
same_matrix m o a b c d e i = record { rows = (a i, b i, c i, d i); denominator = e i }

pub matrix_injective : (m o : FieldMatrix) → matrix_text m ≡ matrix_text o → m ≡ o
matrix_injective m o e =
    let s =
    one_four m.rows.0 m.rows.1 m.rows.2 m.rows.3 o.rows.0 o.rows.1 o.rows.2 o.rows.3 (natural_text m.denominator) (natural_text o.denominator)
    (sym (matrix_shape m) ∙ e ∙ matrix_shape o) in
    same_matrix m o s.first s.second s.third s.fourth (natural_text_injective m.denominator o.denominator s.behind)
