-- Lines and their texts: one line a text, and no text has a line feed.
use Rattle.std.proofs.Common.{◌≡◌, ℕ, ℤ, pos, zero, suc, negsuc, List, [], ◌∷◌, ◌++◌, codes, get_or, eqb, eq-eqb, false, refl, ap, sym, ◌∙◌}
use Rattle.std.proofs.lemmas.List.{append_cancel_left}
use Rattle.std.proofs.lemmas.Bool.{true≢false}
use Rattle.quad_field.specs.declared.quad.Quad.{Quad}
use Rattle.plane.specs.Spelling.{natural_text, whole_text, quad_text}
use Rattle.plane.specs.Matrices.{entries_of}
use Rattle.plane.proofs.CallerLemmas.{natural_text_high, whole_text_high, quad_text_high, natural_text_injective}
use Rattle.surface_text.specs.declared.file.Point.{Point}
use Rattle.surface_text.specs.Spelling.{denominator_text, fraction_text, point_text}
use Rattle.canon_code.specs.CodeText.{spaced_text, numbers_text}
use Rattle.report_text.specs.Reports.{entries_text}
use Rattle.report_text.specs.Lines.{Line, line_text}
use Rattle.report_text.specs.Lines.Line.{version, field, base, class_count, class, matrix_count, matrix, end}
use Rattle.report_text.specs.Readings.{Lacks}
use Rattle.report_text.proofs.Bytes.{AreAbove, above_by, above_both, above_high, above_lacks, one_front}
use Rattle.report_text.proofs.Injective.{point_injective, numbers_injective, matrix_injective}

above_whole : (n : ℤ) → AreAbove (whole_text n)
above_whole n = above_high (whole_text n) (whole_text_high n)

above_natural : (n : ℕ) → AreAbove (natural_text n)
above_natural n = above_high (natural_text n) (natural_text_high n)

above_over : (d : ℤ) → AreAbove (47 ∷ whole_text d)
above_over d = above_both (47 ∷ []) (whole_text d) (above_by (47 ∷ []) refl) (above_whole d)

above_denominator : (d : ℤ) → AreAbove (denominator_text d)
above_denominator (pos zero) = above_over (pos zero)
above_denominator (pos (suc zero)) = tt
above_denominator (pos (suc (suc k))) = above_over (pos (suc (suc k)))
above_denominator (negsuc k) = above_over (negsuc k)

above_fraction : (n d : ℤ) → AreAbove (fraction_text n d)
above_fraction n d = above_both (whole_text n) (denominator_text d) (above_whole n) (above_denominator d)

above_point : (at : Point) → AreAbove (point_text at)
above_point at =
    above_both (fraction_text at.xn at.xd ++ 32 ∷ []) (fraction_text at.yn at.yd)
    (above_both (fraction_text at.xn at.xd) (32 ∷ []) (above_fraction at.xn at.xd) (above_by (32 ∷ []) refl)) (above_fraction at.yn at.yd)

above_spaced : (numbers : List ℤ) → AreAbove (spaced_text numbers)
above_spaced [] = tt
above_spaced (n ∷ numbers) = above_both (32 ∷ whole_text n) (spaced_text numbers) (above_both (32 ∷ []) (whole_text n) (above_by (32 ∷ []) refl) (above_whole n)) (above_spaced numbers)

above_numbers : (numbers : List ℤ) → AreAbove (numbers_text numbers)
above_numbers [] = tt
above_numbers (n ∷ numbers) = above_both (whole_text n) (spaced_text numbers) (above_whole n) (above_spaced numbers)

above_entries : (entries : List Quad) → AreAbove (entries_text entries)
above_entries [] = tt
above_entries (x ∷ entries) =
    above_both (32 ∷ quad_text x) (entries_text entries) (above_both (32 ∷ []) (quad_text x) (above_by (32 ∷ []) refl) (above_high (quad_text x) (quad_text_high x))) (above_entries entries)

line_above : (line : Line) → AreAbove (line_text line)
line_above version = above_by (codes "veech 1") refl
line_above (field d) = above_both (codes "field ") (natural_text d) (above_by (codes "field ") refl) (above_natural d)
line_above (base at) = above_both (codes "base ") (point_text at) (above_by (codes "base ") refl) (above_point at)
line_above (class_count n) = above_both (codes "classes ") (natural_text n) (above_by (codes "classes ") refl) (above_natural n)
line_above (class code) = above_both (codes "class ") (numbers_text code) (above_by (codes "class ") refl) (above_numbers code)
line_above (matrix_count n) = above_both (codes "matrices ") (natural_text n) (above_by (codes "matrices ") refl) (above_natural n)
line_above (matrix m) =
    above_both (codes "matrix") (entries_text (entries_of m.rows) ++ 32 ∷ (natural_text m.denominator ++ [])) (above_by (codes "matrix") refl)
    (above_both (entries_text (entries_of m.rows)) (32 ∷ (natural_text m.denominator ++ [])) (above_entries (entries_of m.rows))
    (above_both (32 ∷ []) (natural_text m.denominator ++ []) (above_by (32 ∷ []) refl) (above_both (natural_text m.denominator) [] (above_natural m.denominator) tt)))
line_above end = above_by (codes "end") refl

-- the text of a line has no line feed
pub line_lacks : (line : Line) → Lacks 10 (line_text line)
line_lacks line = above_lacks (line_text line) (line_above line)

-- what follows the word of a class line
pub class_lacks : (text : List ℕ) → Lacks 10 text → Lacks 10 (codes "class " ++ text)
class_lacks text lacks = known (codes "class ") text (above_lacks (codes "class ") (above_by (codes "class ") refl)) lacks
  where
    known : (xs ys : List ℕ) → Lacks 10 xs → Lacks 10 ys → Lacks 10 (xs ++ ys)
    known [] ys left right = right
    known (x ∷ xs) ys left right = (left.0, known xs ys left.1 right)

-- texts that differ at a place differ
apart : (k : ℕ) (x y : List ℕ) → x ≡ y → eqb (get_or x k 0) (get_or y k 0) ≡ false → ⊥
apart k x y e differ = true≢false (sym (eq-eqb (get_or x k 0) (get_or y k 0) (ap (λ (l : List ℕ). get_or l k 0) e)) ∙ differ)

-- a text is that of one line
pub line_injective : (x y : Line) → line_text x ≡ line_text y → x ≡ y
line_injective version version e = refl
line_injective (field d) (field n) e = ap Line.field (natural_text_injective d n (append_cancel_left (codes "field ") (natural_text d) (natural_text n) e))
line_injective (base at) (base to) e = ap Line.base (point_injective at to (append_cancel_left (codes "base ") (point_text at) (point_text to) e))
line_injective (class_count n) (class_count m) e = ap Line.class_count (natural_text_injective n m (append_cancel_left (codes "classes ") (natural_text n) (natural_text m) e))
line_injective (class code) (class other) e = ap Line.class (numbers_injective code other (append_cancel_left (codes "class ") (numbers_text code) (numbers_text other) e))
line_injective (matrix_count n) (matrix_count m) e = ap Line.matrix_count (natural_text_injective n m (append_cancel_left (codes "matrices ") (natural_text n) (natural_text m) e))
line_injective (matrix m) (matrix o) e = ap Line.matrix (matrix_injective m o e)
line_injective end end e = refl
line_injective (class_count n) (class code) e = absurd (apart 5 (line_text (class_count n)) (line_text (class code)) e refl)
line_injective (class code) (class_count n) e = absurd (apart 5 (line_text (class code)) (line_text (class_count n)) e refl)
line_injective (matrix_count n) (matrix m) e = absurd (apart 5 (line_text (matrix_count n)) (line_text (matrix m)) e refl)
line_injective (matrix m) (matrix_count n) e = absurd (apart 5 (line_text (matrix m)) (line_text (matrix_count n)) e refl)
line_injective x y e = absurd (apart 0 (line_text x) (line_text y) e refl)

-- lines and what follows them are the same where the bytes are
pub front_line : (x y : Line) (r s : List ℕ) → line_text x ++ 10 ∷ r ≡ line_text y ++ 10 ∷ s → (x ≡ y) × (r ≡ s)
front_line x y r s e =
    let f = one_front 10 (line_text x) (line_text y) r s (line_lacks x) (line_lacks y) e in (line_injective x y f.0, f.1)
