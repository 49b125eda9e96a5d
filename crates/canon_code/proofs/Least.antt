-- One more start.
use Rattle.std.proofs.Common.{◌≡◌, ℕ, ◌+◌, ◌*◌, ◌/◌, ◌<◌, List, [], ◌∷◌, ◌++◌, length, get_or, refl, sym, ap, ◌∙◌, subst, inl, inr, arith}
use Rattle.std.specs.Prelude.{ℤ, pos, ◌<ℤ◌}
use Rattle.std.proofs.lemmas.Int.{ints}
use mathlib.Core.Path.{subst₂}
use Rattle.std.specs.Ordering.{int_cmp, ordering_reverse}
use Rattle.std.specs.Cmp.Lexicographic.{slice_cmp}
use Rattle.std.specs.declared.cmp.Ordering.{Ordering}
use Rattle.std.specs.declared.cmp.Ordering.TheVariants.{Less, Equal, Greater}
use Rattle.std.proofs.lemmas.Cmp.{lists_total, int_cmp_total, tied_itself}
use Rattle.std.proofs.lemmas.Bool.{cases_eq, cases_lt}
use Rattle.std.proofs.lemmas.List.{get_or_append_left, get_or_push, length_push}
use Rattle.std.specs.Cmp.{IsTotalOrder}
use Rattle.quad_field.specs.FieldNumber.{IsFieldNumber}
use Rattle.tri_core.specs.declared.half.Half.{Half}
use Rattle.tri_core.specs.Triangulation.{IsTriangulation}
use Rattle.canon_code.specs.Serials.{IsSerial}
use Rattle.canon_code.specs.Codes.{IsBefore, IsCode, AreStarts}
use Rattle.tri_core.specs.HalfEdges.{twin_at}
use Rattle.canon_code.specs.Canonical.{number_at}
use Rattle.canon_code.specs.Least.{IsLeastTo}
use Rattle.canon_code.proofs.Rows.{length-rows}
use Rattle.canon_code.proofs.Serials.{serial_once}
use Rattle.canon_code.proofs.Codes.{equal_unless_before}

order : IsTotalOrder (slice_cmp int_cmp)
order = lists_total int_cmp_total

not_before_itself : (xs : List ℤ) → ¬ (IsBefore xs xs)
not_before_itself xs h = let e : Less ≡ Equal = sym h ∙ tied_itself order xs in cc

not_both_before : (xs ys : List ℤ) → IsBefore xs ys → ¬ (IsBefore ys xs)
not_both_before xs ys p q = not_before_itself xs (order.trans xs ys xs p q)

pub before_from_greater : (xs ys : List ℤ) → slice_cmp int_cmp xs ys ≡ Greater → IsBefore ys xs
before_from_greater xs ys e = order.antisymm ys xs ∙ ap ordering_reverse e

pub equal_from_tie : (xs ys : List ℤ) → slice_cmp int_cmp xs ys ≡ Equal → xs ≡ ys
equal_from_tie xs ys e =
    equal_unless_before xs ys (λ p. let f : Less ≡ Equal = sym p ∙ e in cc)
    (λ p. let f : Less ≡ Equal = sym p ∙ order.antisymm ys xs ∙ ap ordering_reverse e in cc)

module _ (d : ℕ) (field : IsFieldNumber d) (halves : List Half) (valid : IsTriangulation d halves) where
  -- the first start
  pub least_first : (h : ℕ) (serial : List ℤ) → h ≡ 0 → 0 < length halves → IsSerial d halves h serial → IsLeastTo d halves 1 serial (h ∷ [])
  least_first h serial e some own = record {
    some = omega arith;
    below = λ i less. let z : i ≡ 0 = omega arith in subst (λ k. get_or (h ∷ []) k 0 < 1) (sym z) (omega arith);
    each = λ i less. let z : i ≡ 0 = omega arith in subst (λ k. IsSerial d halves (get_or (h ∷ []) k 0) serial) (sym z) own;
    all = λ k less s. (0, omega arith, omega arith);
    ascending = λ i j less under. absurd (omega arith);
    least = λ k other less s before.
        let z : k ≡ h = omega arith in
        not_before_itself serial (subst (λ l. IsBefore l serial) (serial_once d field halves h other serial valid (omega arith) (subst (λ n. IsSerial d halves n other) z s) own) before);
  }

  module _ (bound : ℕ) (best serial : List ℤ) (starts : List ℕ) (inside : bound < length halves) (l : IsLeastTo d halves bound best starts) (own : IsSerial d halves bound serial) where
    own_is : (other : List ℤ) → IsSerial d halves bound other → other ≡ serial
    own_is other s = serial_once d field halves bound other serial valid inside s own

    -- a lesser serial
    pub least_less : IsBefore serial best → IsLeastTo d halves (bound + 1) serial (bound ∷ [])
    least_less before = record {
      some = omega arith;
      below = λ i less. let z : i ≡ 0 = omega arith in subst (λ k. get_or (bound ∷ []) k 0 < bound + 1) (sym z) (omega arith);
      each = λ i less. let z : i ≡ 0 = omega arith in subst (λ k. IsSerial d halves (get_or (bound ∷ []) k 0) serial) (sym z) own;
      all = λ h less s. elim (cases_eq h bound) [
        | inl e ↦ (0, omega arith, sym e)
        | inr ne ↦ absurd (l.least h serial (omega arith) s before)
      ];
      ascending = λ i j less under. absurd (omega arith);
      least = λ h other less s worse. elim (cases_eq h bound) [
        | inl e ↦ not_before_itself serial (subst (λ x. IsBefore x serial) (own_is other (subst (λ n. IsSerial d halves n other) e s)) worse)
        | inr ne ↦ l.least h other (omega arith) s (order.trans other serial best worse before)
      ];
    }

    -- the same serial
    pub least_same : slice_cmp int_cmp serial best ≡ Equal → IsLeastTo d halves (bound + 1) best (starts ++ bound ∷ [])
    least_same tie = record {
      some = omega (arith, length_push starts bound);
      below = λ i less. elim (cases_lt i (length starts)) [
        | inl under ↦ let k = l.below i under in omega (arith, get_or_append_left starts (bound ∷ []) 0 i under, k)
        | inr over ↦ omega (arith, get_or_push starts bound 0 i (omega (arith, length_push starts bound)))
      ];
      each = λ i less. elim (cases_lt i (length starts)) [
        | inl under ↦ subst (λ n. IsSerial d halves n best) (sym (get_or_append_left starts (bound ∷ []) 0 i under)) (l.each i under)
        | inr over ↦ subst (λ n. IsSerial d halves n best) (sym (get_or_push starts bound 0 i (omega (arith, length_push starts bound)))) (subst (IsSerial d halves bound) (equal_from_tie serial best tie) own)
      ];
      all = λ h less s. elim (cases_eq h bound) [
        | inl e ↦ (length starts, omega (arith, length_push starts bound), get_or_push starts bound 0 (length starts) refl ∙ sym e)
        | inr ne ↦
            let w = l.all h (omega arith) s in
            (w.0, omega (arith, length_push starts bound, w.1), get_or_append_left starts (bound ∷ []) 0 w.0 w.1 ∙ w.2)
      ];
      ascending = λ i j less under. elim (cases_lt j (length starts)) [
        | inl in_old ↦
            let k = l.ascending i j less in_old in
            omega (arith, k, get_or_append_left starts (bound ∷ []) 0 i (omega (arith, less, in_old)), get_or_append_left starts (bound ∷ []) 0 j in_old)
        | inr last ↦
            let in_old : i < length starts = omega (arith, length_push starts bound) in
            let k = l.below i in_old in
            omega (arith, k, get_or_append_left starts (bound ∷ []) 0 i in_old, get_or_push starts bound 0 j (omega (arith, length_push starts bound)))
      ];
      least = λ h other less s worse. elim (cases_eq h bound) [
        | inl e ↦
            not_before_itself best (subst (λ x. IsBefore x best) (own_is other (subst (λ n. IsSerial d halves n other) e s) ∙ equal_from_tie serial best tie) worse)
        | inr ne ↦ l.least h other (omega arith) s worse
      ];
    }

  -- a greater list at the bound: all that is needed is that no serial there is at most the best
  pub least_kept : (bound : ℕ) (best : List ℤ) (starts : List ℕ) → IsLeastTo d halves bound best starts → ((other : List ℤ) → IsSerial d halves bound other → IsBefore best other) → IsLeastTo d halves (bound + 1) best starts
  least_kept bound best starts l greater = record {
    some = l.some;
    below = λ i less. let k = l.below i less in omega (arith, k);
    each = l.each;
    all = λ h less s. elim (cases_eq h bound) [
      | inl e ↦ absurd (not_before_itself best (greater best (subst (λ n. IsSerial d halves n best) e s)))
      | inr ne ↦ l.all h (omega arith) s
    ];
    ascending = l.ascending;
    least = λ h other less s worse. elim (cases_eq h bound) [
      | inl e ↦ not_both_before best other (greater other (subst (λ n. IsSerial d halves n other) e s)) worse
      | inr ne ↦ l.least h other (omega arith) s worse
    ];
  }

  pub least_greater : (bound : ℕ) (best serial : List ℤ) (starts : List ℕ) → bound < length halves → IsLeastTo d halves bound best starts → IsSerial d halves bound serial → slice_cmp int_cmp serial best ≡ Greater
      → IsLeastTo d halves (bound + 1) best starts
  least_greater bound best serial starts inside l own e =
      least_kept bound best starts l
      (λ other s. subst (IsBefore best) (sym (serial_once d field halves bound other serial valid inside s own)) (before_from_greater serial best e))

  -- the better of the best and one more
  pub least_step : (bound : ℕ) (best serial later : List ℤ) (starts later_starts : List ℕ) → bound < length halves → IsLeastTo d halves bound best starts → IsSerial d halves bound serial
      → (slice_cmp int_cmp serial best ≡ Less → (later ≡ serial) × (later_starts ≡ bound ∷ []))
      → (slice_cmp int_cmp serial best ≡ Equal → (later ≡ best) × (later_starts ≡ starts ++ bound ∷ []))
      → (slice_cmp int_cmp serial best ≡ Greater → (later ≡ best) × (later_starts ≡ starts))
      → IsLeastTo d halves (bound + 1) later later_starts
  least_step bound best serial later starts later_starts inside l own less same greater = go (slice_cmp int_cmp serial best) refl
    where
      named : (a : List ℤ) (b : List ℕ) → (later ≡ a) × (later_starts ≡ b) → IsLeastTo d halves (bound + 1) a b → IsLeastTo d halves (bound + 1) later later_starts
      named a b e t = subst₂ (λ x y. IsLeastTo d halves (bound + 1) x y) (sym e.0) (sym e.1) t

      go : (o : Ordering) → slice_cmp int_cmp serial best ≡ o → IsLeastTo d halves (bound + 1) later later_starts
      go Less e = named serial (bound ∷ []) (less e) (least_less bound best serial starts inside l own e)
      go Equal e = named best (starts ++ bound ∷ []) (same e) (least_same bound best serial starts inside l own e)
      go Greater e = named best starts (greater e) (least_greater bound best serial starts inside l own e)

  -- all starts
  pub code_is : (code : List ℤ) (starts : List ℕ) → IsLeastTo d halves (length halves) code starts → IsCode d halves code
  code_is code starts l = record {
    start = get_or starts 0 0;
    inside = l.below 0 l.some;
    serial = l.each 0 l.some;
    least = l.least;
  }

  pub starts_are : (code : List ℤ) (starts : List ℕ) → IsLeastTo d halves (length halves) code starts → AreStarts d halves code starts
  starts_are code starts l = record {
    each = λ i less. (l.below i less, l.each i less);
    all = λ h s. l.all h s.0 s.1;
    ascending = l.ascending;
  }

-- the best has the length of a serial
pub best_long : (d : ℕ) (halves : List Half) (bound : ℕ) (code : List ℤ) (starts : List ℕ) → IsLeastTo d halves bound code starts → length code ≡ 2 + 11 * (length halves / 3)
best_long d halves bound code starts l =
    let own : IsSerial d halves (get_or starts 0 0) code = l.each 0 l.some in
    ap length own.numbers ∙ omega (arith, length-rows own.written (λ k. own.number (twin_at halves (own.place k))) (length halves / 3))

-- and begins with the number of triangles
pub best_first : (d : ℕ) (halves : List Half) (bound : ℕ) (code : List ℤ) (starts : List ℕ) → IsLeastTo d halves bound code starts → number_at code 0 ≡ pos (length halves / 3)
best_first d halves bound code starts l = let own : IsSerial d halves (get_or starts 0 0) code = l.each 0 l.some in ap (λ (c : List ℤ). number_at c 0) own.numbers

-- its scale is above zero
pub best_scale : (d : ℕ) (halves : List Half) (bound : ℕ) (code : List ℤ) (starts : List ℕ) → IsLeastTo d halves bound code starts → pos 0 <ℤ number_at code 1
best_scale d halves bound code starts l =
    let own : IsSerial d halves (get_or starts 0 0) code = l.each 0 l.some in
    subst (λ z. pos 0 <ℤ z) (sym (ap (λ (c : List ℤ). number_at c 1) own.numbers)) (omega (arith, ints, own.least.0.0))
