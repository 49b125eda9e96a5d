-- Each triangulation has a code; and when a start may be given up.
use Rattle.std.proofs.Common.{◌≡◌, ℕ, zero, suc, ◌+◌, ◌<◌, ◌≤◌, List, [], ◌∷◌, ◌++◌, length, get_or, take, refl, sym, ap, ◌∙◌, subst, arith}
use Rattle.std.specs.Prelude.{ℤ, pos, ◌<ℤ◌}
use Rattle.std.specs.Ordering.{int_cmp, ordering_then, MatchOrdering}
use Rattle.std.specs.Cmp.Lexicographic.{slice_cmp}
use Rattle.std.specs.declared.cmp.Ordering.{Ordering}
use Rattle.std.specs.declared.cmp.Ordering.TheVariants.{Less, Equal, Greater}
use Rattle.std.proofs.lemmas.Cmp.{int_cmp_total, tied_itself, int_ranked}
use Rattle.std.proofs.lemmas.Int.{ints}
use Rattle.quad_field.specs.FieldNumber.{IsFieldNumber}
use Rattle.tri_core.specs.declared.half.Half.{Half}
use Rattle.tri_core.specs.Triangulation.{IsTriangulation}
use Rattle.canon_code.specs.Serials.{IsSerial}
use Rattle.canon_code.specs.Codes.{IsBefore, IsCode}
use Rattle.canon_code.specs.Least.{IsLeastTo}
use Rattle.canon_code.proofs.Least.{least_first, least_less, least_same, least_greater, code_is}
use Rattle.canon_code.proofs.ScaleExists.{some_serial}

module _ (d : ℕ) (field : IsFieldNumber d) (halves : List Half) (valid : IsTriangulation d halves) where
  some_best : (n : ℕ) → suc n ≤ length halves → (code : List ℤ) × (starts : List ℕ) × IsLeastTo d halves (n + 1) code starts
  some_best zero few =
      let s = some_serial d field halves 0 valid (omega (arith, few)) in
      let one : 1 ≡ 0 + 1 = omega arith in
      (s.0, 0 ∷ [], subst (λ k. IsLeastTo d halves k s.0 (0 ∷ [])) one (least_first d field halves valid 0 s.0 refl (omega (arith, few)) s.1))
  some_best (suc n) few =
      let b = some_best n (omega (arith, few)) in
      let s = some_serial d field halves (n + 1) valid (omega (arith, few)) in
      let e : n + 1 + 1 ≡ suc n + 1 = omega arith in
      let r = go n (omega (arith, few)) b.0 b.1 b.2 s.0 s.1 (slice_cmp int_cmp s.0 b.0) refl in
      (r.0, r.1, subst (λ k. IsLeastTo d halves k r.0 r.1) e r.2)
    where
      go : (n : ℕ) → n + 1 < length halves → (best : List ℤ) (starts : List ℕ) → IsLeastTo d halves (n + 1) best starts → (s : List ℤ) → IsSerial d halves (n + 1) s → (o : Ordering) → slice_cmp int_cmp s best ≡ o
          → (code : List ℤ) × (starts : List ℕ) × IsLeastTo d halves (n + 1 + 1) code starts
      go n inside best starts l s own Less e = (s, (n + 1) ∷ [], least_less d field halves valid (n + 1) best s starts inside l own e)
      go n inside best starts l s own Equal e = (best, starts ++ (n + 1) ∷ [], least_same d field halves valid (n + 1) best s starts inside l own e)
      go n inside best starts l s own Greater e = (best, starts, least_greater d field halves valid (n + 1) best s starts inside l own e)

  -- each triangulation has a code
  pub some_code : (code : List ℤ) × IsCode d halves code
  some_code = go (length halves) refl
    where
      go : (n : ℕ) → n ≡ length halves → (code : List ℤ) × IsCode d halves code
      go zero e = absurd (omega (arith, e, valid.count.1))
      go (suc n) e =
          let b = some_best n (omega (arith, e)) in
          let all : n + 1 ≡ length halves = omega (arith, e) in
          (b.0, code_is d field halves valid b.0 b.1 (subst (λ k. IsLeastTo d halves k b.0 b.1) all b.2))

-- at the first number that differs the greater one decides
pub before_from_number : (best serial : List ℤ) (k : ℕ) → k < length best → k < length serial → take k best ≡ take k serial → get_or best k (pos 0) <ℤ get_or serial k (pos 0) → IsBefore best serial
before_from_number [] serial k a b same less = absurd (omega (arith, a))
before_from_number (x ∷ best) [] k a b same less = absurd (omega (arith, b))
before_from_number (x ∷ best) (y ∷ serial) zero a b same less = go (int_cmp x y) refl (int_ranked x y (int_cmp x y) refl)
  where
    go : (o : Ordering) → int_cmp x y ≡ o → MatchOrdering o (x <ℤ y) (x ≡ y) (y <ℤ x) → ordering_then (int_cmp x y) (slice_cmp int_cmp best serial) ≡ Less
    go Less e r = ap (λ o. ordering_then o (slice_cmp int_cmp best serial)) e
    go Equal e r = absurd (omega (arith, ints, less, r))
    go Greater e r = absurd (omega (arith, ints, less, r))
before_from_number (x ∷ best) (y ∷ serial) (suc k) a b same less =
    let heads : x ≡ y = cc in
    let tails : take k best ≡ take k serial = cc in
    let tie : int_cmp x y ≡ Equal = ap (int_cmp x) (sym heads) ∙ tied_itself int_cmp_total x in
    ap (λ o. ordering_then o (slice_cmp int_cmp best serial)) tie ∙ before_from_number best serial k (omega (arith, a)) (omega (arith, b)) tails less
