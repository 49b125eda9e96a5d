-- The line of a matrix, part by part.
use Rattle.std.proofs.Common.{◌≡◌, ◌≢◌, ℕ, ◌*◌, ◌<◌, Option, Some, None, List, [], ◌∷◌, ◌++◌, length, codes, refl, ap, sym, ◌∙◌, subst, arith}
use Rattle.std.specs.Prelude.{ℤ, pos, ◌*ℤ◌, ◌↔◌}
use Rattle.std.specs.List.{AllByRecursion}
use Rattle.std.proofs.lemmas.Int.{ints}
use Rattle.std.proofs.lemmas.List.{append_cancel_left}
use Rattle.rings.specs.Matrices.{Matrix}
use Rattle.quad_field.specs.declared.quad.Quad.{Quad}
use Rattle.quad_field.specs.Quads.{quad, scaled}
use Rattle.quad_field.specs.Width.{PartsFit}
use Rattle.plane.specs.Matrices.{FieldMatrix, rows_of, entries_of, scaled_matrix, IsInLowestTerms, IsReducedTo}
use Rattle.plane.specs.Spelling.{natural_text, quad_text}
use Rattle.plane.proofs.CallerLemmas.{natural_text_injective, quad_text_no_space, one_value, reduced_value}
use Rattle.report_text.specs.Reports.{matrix_text}
use Rattle.report_text.specs.Limits.{IsWithin, IsMatrixLine}
use Rattle.report_text.specs.Readings.{Lacks, IsSplitAt, spaced_entries, AreEntries}
use Rattle.report_text.proofs.Bytes.{no_stop, one_split}
use Rattle.report_text.proofs.Injective.{matrix_shape, one_entry, one_four}

-- ---- the four numbers
abbrev pub AllFour : Quad → Quad → Quad → Quad → Type 0
AllFour a b c d = PartsFit a × PartsFit b × PartsFit c × PartsFit d

-- no number within i128 comes first
abbrev pub NoEntry : List ℕ → Type 0
NoEntry bytes = (x : Quad) (behind : List ℕ) → bytes ≡ quad_text x ++ 32 ∷ behind → ¬ (PartsFit x)

-- no line of four numbers
abbrev pub NoFour : List ℕ → Type 0
NoFour line = (a b c d : Quad) (word : List ℕ) → line ≡ spaced_entries a b c d word → ¬ (AllFour a b c d)

pub no_word : (line : List ℕ) → ((tail : List ℕ) → line ≢ codes "matrix " ++ tail) → NoFour line
no_word line none a b c d word e fit = none (quad_text a ++ 32 ∷ (quad_text b ++ 32 ∷ (quad_text c ++ 32 ∷ (quad_text d ++ 32 ∷ word)))) e

module _ (line tail : List ℕ) (head : line ≡ codes "matrix " ++ tail) where
  tail_is : (a b c d : Quad) (word : List ℕ) → line ≡ spaced_entries a b c d word → tail ≡ quad_text a ++ 32 ∷ (quad_text b ++ 32 ∷ (quad_text c ++ 32 ∷ (quad_text d ++ 32 ∷ word)))
  tail_is a b c d word e = append_cancel_left (codes "matrix ") _ _ (sym head ∙ e)

  pub no_first : NoEntry tail → NoFour line
  no_first none a b c d word e fit = none a (quad_text b ++ 32 ∷ (quad_text c ++ 32 ∷ (quad_text d ++ 32 ∷ word))) (tail_is a b c d word e) fit.0

  module _ (x : Quad) (second : List ℕ) (one : tail ≡ quad_text x ++ 32 ∷ second) where
    second_is : (a b c d : Quad) (word : List ℕ) → line ≡ spaced_entries a b c d word → second ≡ quad_text b ++ 32 ∷ (quad_text c ++ 32 ∷ (quad_text d ++ 32 ∷ word))
    second_is a b c d word e =
        let f = one_entry x a second (quad_text b ++ 32 ∷ (quad_text c ++ 32 ∷ (quad_text d ++ 32 ∷ word))) (sym one ∙ tail_is a b c d word e) in f.1

    pub no_second : NoEntry second → NoFour line
    no_second none a b c d word e fit = none b (quad_text c ++ 32 ∷ (quad_text d ++ 32 ∷ word)) (second_is a b c d word e) fit.1

    module _ (y : Quad) (third : List ℕ) (two : second ≡ quad_text y ++ 32 ∷ third) where
      third_is : (a b c d : Quad) (word : List ℕ) → line ≡ spaced_entries a b c d word → third ≡ quad_text c ++ 32 ∷ (quad_text d ++ 32 ∷ word)
      third_is a b c d word e =
          let f = one_entry y b third (quad_text c ++ 32 ∷ (quad_text d ++ 32 ∷ word)) (sym two ∙ second_is a b c d word e) in f.1

      pub no_third : NoEntry third → NoFour line
      no_third none a b c d word e fit = none c (quad_text d ++ 32 ∷ word) (third_is a b c d word e) fit.2

      module _ (z : Quad) (fourth : List ℕ) (three : third ≡ quad_text z ++ 32 ∷ fourth) where
        pub no_fourth : NoEntry fourth → NoFour line
        no_fourth none a b c d word e fit =
            let f = one_entry z c fourth (quad_text d ++ 32 ∷ word) (sym three ∙ third_is a b c d word e) in none d word f.1 fit.3

        pub four_read : (w : Quad) (word : List ℕ) → fourth ≡ quad_text w ++ 32 ∷ word → AllFour x y z w → AreEntries line (x ∷ y ∷ z ∷ w ∷ []) word
        four_read w word last fit = record {
          four = refl;
          spelled =
              head ∙ ap (λ (l : List ℕ). codes "matrix " ++ l)
              (one ∙ ap (λ (l : List ℕ). quad_text x ++ 32 ∷ l) (two ∙ ap (λ (l : List ℕ). quad_text y ++ 32 ∷ l) (three ∙ ap (λ (l : List ℕ). quad_text z ++ 32 ∷ l) last)));
          fit = (fit.0, (fit.1, (fit.2, (fit.3, tt))));
        }

-- ---- lowest terms
scaled_one : (x : Quad) → scaled (pos 1) x ≡ x
scaled_one x i = quad (part x.a i) (part x.b i)
  where
    part : (n : ℤ) → n *ℤ pos 1 ≡ n
    part n = omega (arith, ints)

-- a factor that changes nothing is 1
factor_one : (g k : ℕ) → 0 < k → k ≡ g * k → g ≡ 1
factor_one g k some e = grind arith

-- what is reduced without a change of the denominator is as it was
pub kept : (n : Matrix Quad) (den : ℕ) (r : FieldMatrix) → IsReducedTo n (pos den) r → IsInLowestTerms r → r.denominator ≡ den → r.rows ≡ n
kept n den r reduced lowest same =
    let some = lowest.positive in
    let product : pos den ≡ pos (reduced.0 * r.denominator) = reduced.3 in
    let number : den ≡ reduced.0 * r.denominator = cc in
    let one : reduced.0 ≡ 1 = factor_one reduced.0 r.denominator some (same ∙ number) in
    sym (reduced.2 ∙ ap (λ (g : ℕ). scaled_matrix (pos g) r.rows) one ∙ unscaled)
  where
    unscaled : scaled_matrix (pos 1) r.rows ≡ r.rows
    unscaled i = (scaled_one r.rows.0 i, scaled_one r.rows.1 i, scaled_one r.rows.2 i, scaled_one r.rows.3 i)

-- what is in lowest terms is reduced to itself
pub found : (n : Matrix Quad) (den : ℕ) (r m : FieldMatrix) → IsReducedTo n (pos den) r → IsInLowestTerms r → m.rows ≡ n → m.denominator ≡ den → IsInLowestTerms m → m ≡ r
found n den r m reduced lowest rows same low = one_value m r low lowest (reduced_value n (pos den) m r (sym rows) (ap pos (sym same)) reduced)

-- ---- the whole line
-- what m is where the line is its
abbrev pub IsOver : List Quad → ℕ → FieldMatrix → Type 0
IsOver n den m = (m.rows ≡ rows_of n) × (m.denominator ≡ den) × IsInLowestTerms m

four_fit : (m : FieldMatrix) → AllByRecursion PartsFit (entries_of m.rows) → AllFour m.rows.0 m.rows.1 m.rows.2 m.rows.3
four_fit m fit = (fit.0, fit.1.0, fit.1.1.0, fit.1.1.1.0)

pub no_entries : (line : List ℕ) → NoFour line → (m : FieldMatrix) → ¬ (IsMatrixLine line m)
no_entries line none m is =
    let within = is.1 in none m.rows.0 m.rows.1 m.rows.2 m.rows.3 (natural_text m.denominator) (is.0 ∙ matrix_shape m) (four_fit m within.entries)

rows_fit : (n : List Quad) → length n ≡ 4 → AllByRecursion PartsFit n → AllByRecursion PartsFit (entries_of (rows_of n))
rows_fit [] four fit = absurd (omega arith)
rows_fit (x ∷ []) four fit = absurd (omega arith)
rows_fit (x ∷ y ∷ []) four fit = absurd (omega arith)
rows_fit (x ∷ y ∷ z ∷ []) four fit = absurd (omega arith)
rows_fit (x ∷ y ∷ z ∷ w ∷ []) four fit = fit
rows_fit (x ∷ y ∷ z ∷ w ∷ v ∷ n) four fit = absurd (omega arith)

module _ (line : List ℕ) (n : List Quad) (word : List ℕ) (are : AreEntries line n word) where
  -- the rows and the word are those of each matrix whose line this is
  parts_of : (m : FieldMatrix) → line ≡ matrix_text m → (m.rows ≡ rows_of n) × (word ≡ natural_text m.denominator)
  parts_of m e =
      let r = rows_of n in
      let s = one_four r.0 r.1 r.2 r.3 m.rows.0 m.rows.1 m.rows.2 m.rows.3 word (natural_text m.denominator) (sym are.spelled ∙ e ∙ matrix_shape m) in
      (rows_are m s.first s.second s.third s.fourth, s.behind)
    where
      rows_are : (m : FieldMatrix) → (rows_of n).0 ≡ m.rows.0 → (rows_of n).1 ≡ m.rows.1 → (rows_of n).2 ≡ m.rows.2 → (rows_of n).3 ≡ m.rows.3 → m.rows ≡ rows_of n
      rows_are m a b c d i = (sym a i, sym b i, sym c i, sym d i)

  pub no_denominator : ((k : ℕ) → ¬ ((word ≡ natural_text k) × IsWithin k)) → (m : FieldMatrix) → ¬ (IsMatrixLine line m)
  no_denominator none m is = let within = is.1 in let parts = parts_of m is.0 in none m.denominator (parts.1, within.denominator)

  module _ (den : ℕ) (spelled : word ≡ natural_text den) (fits : IsWithin den) where
    own : (m : FieldMatrix) → IsMatrixLine line m → m.denominator ≡ den
    own m is = let parts = parts_of m is.0 in natural_text_injective m.denominator den (sym parts.1 ∙ spelled)

    pub no_zero : den ≡ 0 → (m : FieldMatrix) → ¬ (IsMatrixLine line m)
    no_zero zero m is =
        let within = is.1 in
        let lowest = within.lowest in
        let some = lowest.positive in
        let same : m.denominator ≡ den = own m is in omega (arith, some, same, zero)

    pub over : (m : FieldMatrix) → IsOver n den m → IsMatrixLine line m
    over m is = (
      are.spelled ∙ ap (λ (rows : Matrix Quad). spaced_entries rows.0 rows.1 rows.2 rows.3 word) (sym is.0)
          ∙ ap (λ (w : List ℕ). spaced_entries m.rows.0 m.rows.1 m.rows.2 m.rows.3 w) (spelled ∙ ap natural_text (sym is.1)) ∙ sym (matrix_shape m),
      record {
        lowest = is.2;
        entries = subst (λ (rows : Matrix Quad). AllByRecursion PartsFit (entries_of rows)) (sym is.0) (rows_fit n are.four are.fit);
        denominator = subst IsWithin (sym is.1) fits;
      },
    )

    pub under : (m : FieldMatrix) → IsMatrixLine line m → IsOver n den m
    under m is = let within = is.1 in let parts = parts_of m is.0 in (parts.0, own m is, within.lowest)

-- ---- none
pub none_from : {X : Type 0} (P : X → Type 0) (r : Option X) → ((x : X) → (r ≡ Some x) ↔ P x) → (r ≡ None) ↔ ((x : X) → ¬ (P x))
none_from P None iff = (λ e x p. let yes = (iff x).1 p in absurd (cc), λ none. refl)
none_from P (Some x) iff = (λ e. absurd (cc), λ none. absurd (none x ((iff x).0 refl)))

-- ---- single steps
pub entry_cut : (bytes : List ℕ) → Lacks 32 bytes → NoEntry bytes
entry_cut bytes lacks x behind e fits = no_stop 32 bytes (quad_text x) behind lacks e

pub entry_none : (bytes word behind : List ℕ) → IsSplitAt 32 bytes word behind → ((x : Quad) → PartsFit x → word ≢ quad_text x) → NoEntry bytes
entry_none bytes word behind split none x more e fits = let f = one_split split (quad_text x) more (quad_text_no_space x) e in none x fits f.0

pub entry_read : (bytes word behind : List ℕ) (x : Quad) → IsSplitAt 32 bytes word behind → word ≡ quad_text x → bytes ≡ quad_text x ++ 32 ∷ behind
entry_read bytes word behind x split is = split.found ∙ ap (λ (w : List ℕ). w ++ 32 ∷ behind) is

-- a matrix that is reduced, kept where its denominator is
pub lowest_some : (n : List Quad) (den : ℕ) (r : FieldMatrix) → IsReducedTo (rows_of n) (pos den) r → IsInLowestTerms r → r.denominator ≡ den → (m : FieldMatrix) → (Some r ≡ Some m) ↔ IsOver n den m
lowest_some n den r reduced low same m = (
  λ e. let is : r ≡ m = cc in subst (IsOver n den) is (kept (rows_of n) den r reduced low same, same, low),
  λ is. ap (λ (o : FieldMatrix). Some o) (sym (found (rows_of n) den r m reduced low is.0 is.1 is.2)),
)

pub lowest_none : (n : List Quad) (den : ℕ) (r : FieldMatrix) → IsReducedTo (rows_of n) (pos den) r → IsInLowestTerms r → r.denominator ≢ den → (m : FieldMatrix) → (None ≡ Some m) ↔ IsOver n den m
lowest_none n den r reduced low other m = (
  λ e. absurd (cc),
  λ is. absurd (other (ap (λ (o : FieldMatrix). o.denominator) (sym (found (rows_of n) den r m reduced low is.0 is.1 is.2)) ∙ is.1)),
)

-- where there is none
pub no_iff : {X : Type 0} (P : X → Type 0) → ((x : X) → ¬ (P x)) → (x : X) → (None ≡ Some x) ↔ P x
no_iff P none x = (λ e. absurd (cc), λ p. absurd (none x p))
