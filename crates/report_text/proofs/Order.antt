-- The last of some codes, and whether a code is above it.
use Rattle.std.proofs.Common.{◌≡◌, ℕ, zero, suc, ◌-◌, Bool, IsTrue, Some, None, List, [], ◌∷◌, length, refl, sym, subst, arith}
use Rattle.std.specs.Prelude.{ℤ, ◌↔◌}
use Rattle.std.specs.List.{slice_get}
use Rattle.std.specs.Ordering.{int_cmp, is_lt}
use Rattle.std.specs.declared.cmp.Ordering.{Ordering}
use Rattle.std.specs.declared.cmp.Ordering.TheVariants.{Less, Equal, Greater}
use Rattle.std.specs.Cmp.Lexicographic.{slice_cmp}
use Rattle.std.proofs.lemmas.Option.{slice_get-get_or}
use Rattle.canon_code.specs.Codes.{IsBefore}
use Rattle.report_text.specs.Limits.{IsAboveLast}

last_at : (codes : List (List ℤ)) (k : ℕ) (last code : List ℤ) → length codes ≡ suc k → slice_get codes k ≡ Some last → IsAboveLast codes code ↔ IsBefore last code
last_at [] k last code long e = absurd (cc)
last_at (one ∷ []) zero last code long e =
    let same : one ≡ last = cc in
    let P : List ℤ → Type 0 = λ l. IsBefore l code in (λ h. subst P same h, λ h. subst P (sym same) h)
last_at (one ∷ []) (suc k) last code long e = absurd (cc)
last_at (one ∷ next ∷ codes) zero last code long e = absurd (omega arith)
last_at (one ∷ next ∷ codes) (suc k) last code long e = last_at (next ∷ codes) k last code (omega arith) e

before_is : (o : Ordering) → IsTrue (is_lt o) ↔ (o ≡ Less)
before_is Less = (λ h. refl, λ h. refl)
before_is Equal = (λ h. absurd (cc), λ h. absurd (cc))
before_is Greater = (λ h. absurd (cc), λ h. absurd (cc))

-- a test against the last
pub above_some : (codes : List (List ℤ)) (last code : List ℤ) (r : Bool) → slice_get codes (length codes - 1) ≡ Some last → r ≡ is_lt (slice_cmp int_cmp last code) → IsTrue r ↔ IsAboveLast codes code
above_some [] last code r e is = absurd (cc)
above_some (one ∷ codes) last code r e is =
    let k : length (one ∷ codes) - 1 ≡ length codes = omega arith in
    let at = last_at (one ∷ codes) (length codes) last code refl (subst (λ (i : ℕ). slice_get (one ∷ codes) i ≡ Some last) k e) in
    let test = before_is (slice_cmp int_cmp last code) in
    (λ h. at.1 (test.0 (subst IsTrue is h)), λ above. subst IsTrue (sym is) (test.1 (at.0 above)))

-- where there is no last
pub above_none : (codes : List (List ℤ)) (code : List ℤ) → slice_get codes (length codes - 1) ≡ None → IsAboveLast codes code
above_none [] code e = tt
above_none (one ∷ codes) code e =
    let some = slice_get-get_or (one ∷ codes) (length (one ∷ codes) - 1) one (omega arith) in absurd (cc)
