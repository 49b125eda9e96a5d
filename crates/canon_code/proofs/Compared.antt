-- Serials compared triangle by triangle.
use Rattle.std.proofs.Common.{◌≡◌, ◌≢◌, ℕ, zero, suc, ◌+◌, ◌*◌, ◌<◌, List, [], ◌∷◌, ◌++◌, length, take, drop, refl, sym, ap, ◌∙◌, inl, inr, arith}
use Rattle.std.specs.Prelude.{ℤ, pos}
use Rattle.std.specs.Ordering.{int_cmp, ordering_then}
use Rattle.std.specs.Cmp.Lexicographic.{slice_cmp}
use Rattle.std.specs.declared.cmp.Ordering.{Ordering}
use Rattle.std.specs.declared.cmp.Ordering.TheVariants.{Less, Equal, Greater}
use Rattle.std.proofs.lemmas.Cmp.{lists_total, int_cmp_total, tied_itself}
use Rattle.std.proofs.lemmas.Bool.{cases_lt}
use Rattle.std.proofs.lemmas.List.{append_assoc, append-nil, take-append-drop, drop-drop, length-take-le, length-drop}
use Rattle.quad_field.specs.declared.quad.Quad.{Quad}
use Rattle.plane.specs.Vectors.{Vector}
use Rattle.canon_code.specs.Serials.{row, rows}
use Rattle.canon_code.specs.Canonical.{number_at}
use Rattle.canon_code.proofs.Least.{equal_from_tie}

then_assoc : (o p q : Ordering) → ordering_then o (ordering_then p q) ≡ ordering_then (ordering_then o p) q
then_assoc Less p q = refl
then_assoc Equal p q = refl
then_assoc Greater p q = refl

-- lists with fronts of one length
cmp_split : (a b c e : List ℤ) → length a ≡ length b → slice_cmp int_cmp (a ++ c) (b ++ e) ≡ ordering_then (slice_cmp int_cmp a b) (slice_cmp int_cmp c e)
cmp_split [] [] c e same = refl
cmp_split [] (y ∷ b) c e same = absurd (omega (arith, same))
cmp_split (x ∷ a) [] c e same = absurd (omega (arith, same))
cmp_split (x ∷ a) (y ∷ b) c e same =
    ap (ordering_then (int_cmp x y)) (cmp_split a b c e (omega (arith, same))) ∙ then_assoc (int_cmp x y) (slice_cmp int_cmp a b) (slice_cmp int_cmp c e)

pub tie : (xs : List ℤ) → slice_cmp int_cmp xs xs ≡ Equal
tie xs = tied_itself (lists_total int_cmp_total) xs

-- lists with one front
cmp_behind : (a c e : List ℤ) → slice_cmp int_cmp (a ++ c) (a ++ e) ≡ slice_cmp int_cmp c e
cmp_behind a c e = cmp_split a a c e refl ∙ ap (λ o. ordering_then o (slice_cmp int_cmp c e)) (tie a)

-- an order that isn't a tie decides
decides : (o p : Ordering) → o ≢ Equal → ordering_then o p ≡ o
decides Less p other = refl
decides Equal p other = absurd (other refl)
decides Greater p other = refl

-- the rows behind the first ones
rows_split : (w : ℕ → Vector Quad) (f : ℕ → ℕ) (n t : ℕ) → t < n → (rest : List ℤ) × (rows w f n ≡ rows w f t ++ (row w f t ++ rest))
rows_split w f zero t less = absurd (omega (arith, less))
rows_split w f (suc n) t less = elim (cases_lt t n) [
  | inl below ↦
      let r = rows_split w f n t below in (
        r.0 ++ row w f n,
        ap (λ (l : List ℤ). l ++ row w f n) r.1 ∙ append_assoc (rows w f t) (row w f t ++ r.0) (row w f n) ∙ ap (λ (l : List ℤ). rows w f t ++ l) (append_assoc (row w f t) r.0 (row w f n)),
      )
  | inr above ↦
      let same : t ≡ n = omega arith in
      ([], ap (λ (l : List ℤ). rows w f n ++ l) (sym (append-nil (row w f n))) ∙ ap (λ (k : ℕ). rows w f k ++ (row w f k ++ [])) (sym same))
]

module _ (w : ℕ → Vector Quad) (f : ℕ → ℕ) (n m : ℕ) (best : List ℤ) where
  -- the first numbers of the serial
  abbrev pub front : ℕ → List ℤ
  front t = pos n ∷ pos m ∷ rows w f t

  -- the best begins with the first numbers of the serial
  abbrev pub BeginsWith : ℕ → Type 0
  BeginsWith t = best ≡ front t ++ drop (2 + 11 * t) best

  -- one triangle more
  pub begins_more : (t : ℕ) → BeginsWith t → slice_cmp int_cmp (row w f t) (take 11 (drop (2 + 11 * t) best)) ≡ Equal → BeginsWith (t + 1)
  begins_more t own same =
      let behind : List ℤ = drop (2 + 11 * t) best in
      let one : suc t ≡ t + 1 = omega arith in
      let place : 2 + 11 * t + 11 ≡ 2 + 11 * (t + 1) = omega arith in
      own
      ∙ ap (λ (l : List ℤ). front t ++ l) (sym (take-append-drop 11 behind) ∙ ap (λ (l : List ℤ). l ++ drop 11 behind) (sym (equal_from_tie (row w f t) (take 11 behind) same)))
      ∙ sym (append_assoc (front t) (row w f t) (drop 11 behind))
      ∙ ap (λ (l : List ℤ). (front t ++ row w f t) ++ l) (drop-drop 11 (2 + 11 * t) best ∙ ap (λ k. drop k best) place)
      ∙ ap (λ (k : ℕ). front k ++ drop (2 + 11 * (t + 1)) best) one

  -- a triangle that differs decides
  pub differs : (t : ℕ) (o : Ordering) → t < n → BeginsWith t → length (take 11 (drop (2 + 11 * t) best)) ≡ 11 → slice_cmp int_cmp (row w f t) (take 11 (drop (2 + 11 * t) best)) ≡ o → o ≢ Equal
      → slice_cmp int_cmp (front n) best ≡ o
  differs t o less own long is other =
      let behind : List ℤ = drop (2 + 11 * t) best in
      let r = rows_split w f n t less in
      ap (λ (l : List ℤ). slice_cmp int_cmp (pos n ∷ pos m ∷ l) best) r.1
      ∙ ap (slice_cmp int_cmp (front t ++ (row w f t ++ r.0))) own
      ∙ cmp_behind (front t) (row w f t ++ r.0) behind
      ∙ ap (slice_cmp int_cmp (row w f t ++ r.0)) (sym (take-append-drop 11 behind))
      ∙ cmp_split (row w f t) (take 11 behind) r.0 (drop 11 behind) (sym long)
      ∙ ap (λ p. ordering_then p (slice_cmp int_cmp r.0 (drop 11 behind))) is
      ∙ decides o (slice_cmp int_cmp r.0 (drop 11 behind)) other

  -- where no triangle differs
  pub none_differs : length best ≡ 2 + 11 * n → BeginsWith n → slice_cmp int_cmp (front n) best ≡ Equal
  none_differs long own =
      let nothing : drop (2 + 11 * n) best ≡ [] = drop_all (2 + 11 * n) best long in
      ap (slice_cmp int_cmp (front n)) (own ∙ ap (λ (l : List ℤ). front n ++ l) nothing ∙ append-nil (front n)) ∙ tie (front n)
    where
      drop_all : (k : ℕ) (xs : List ℤ) → length xs ≡ k → drop k xs ≡ []
      drop_all zero [] e = refl
      drop_all zero (x ∷ xs) e = absurd (omega (arith, e))
      drop_all (suc k) [] e = absurd (omega (arith, e))
      drop_all (suc k) (x ∷ xs) e = drop_all k xs (omega (arith, e))

-- a triangle's numbers are eleven
pub eleven : (n t : ℕ) (best : List ℤ) → length best ≡ 2 + 11 * n → t < n → length (take 11 (drop (2 + 11 * t) best)) ≡ 11
eleven n t best long less = length-take-le 11 (drop (2 + 11 * t) best) (omega (arith, length-drop (2 + 11 * t) best, long, less))

-- where no triangle is read yet
pub begins_none : (w : ℕ → Vector Quad) (f : ℕ → ℕ) (n m : ℕ) (best : List ℤ) → 1 < length best → number_at best 0 ≡ pos n → number_at best 1 ≡ pos m → BeginsWith w f n m best 0
begins_none w f n m [] long first second = absurd (omega (arith, long))
begins_none w f n m (x ∷ []) long first second = absurd (omega (arith, long))
begins_none w f n m (x ∷ y ∷ best) long first second = λ i. first i ∷ second i ∷ best
