-- The numbers below a bound at which a test gives true, listed; and a triple with its greatest common divisor taken out.
use Rattle.std.proofs.Common.{◌≡◌, ℕ, zero, suc, ◌<◌, ◌+◌, ◌%◌, Bool, true, false, List, [], ◌∷◌, ◌++◌, length, refl, sym, ap, ◌∙◌, subst, arith, inl, inr}
use Rattle.std.specs.Prelude.{◌⊎◌, pos, slice_index, unsigned_abs}
use Rattle.std.specs.List.{Contains}
use Rattle.std.specs.Int.{IsGcd}
use Rattle.std.specs.Int.RustNames.{int_div}
use Prim.Native.Nat.{◌∣◌}
use Rattle.std.proofs.Math.Nat.{mod-lt}
use Rattle.std.proofs.lemmas.Bool.{cases_Bool, cases_lt, true≢false}
use Rattle.std.proofs.lemmas.Nat.Gcd.{IsGcd-from_zero, IsGcd-from_mod, dvd_trans}
use Rattle.std.proofs.lemmas.List.{get_or_append_left, get_or_push, length-append}
use Rattle.std.proofs.lemmas.List.Elements.{Contains-get_or}
use Rattle.std.proofs.lemmas.Grind.{get_or_default_zero}
use Rattle.quad_field.specs.declared.quad.Quad.{Quad}
use Rattle.quad_field.specs.Quads.{quad, scaled}
use Rattle.quad_field.specs.Content.{DividesParts, DividesAll}
use Rattle.quad_field.proofs.CallerLemmas.{exact_quotient, primitive_left}
use Rattle.hinge_form.specs.Triples.{Triple, zeros, times, IsReduced}
use Rattle.hinge_form.specs.Walls.{IsListing}
use Rattle.hinge_form.proofs.CallerLemmas.{divisor_some}

-- ---- the numbers below n at which P gives true
record AreChosen (P : ℕ → Bool) (n : ℕ) (xs : List ℕ) : Type 0 where
  pub ascends : (i j : ℕ) → i < j → j < length xs → slice_index xs i < slice_index xs j
  pub each : (i : ℕ) → i < length xs → (slice_index xs i < n) × (P (slice_index xs i) ≡ true)
  pub every : (k : ℕ) → k < n → P k ≡ true → (i : ℕ) × (i < length xs) × (slice_index xs i ≡ k)

module _ (P : ℕ → Bool) (n : ℕ) (xs : List ℕ) (chosen : AreChosen P n xs) where
  -- one number more, at which it gives true
  module _ (member : P n ≡ true) where
    abbrev more : List ℕ
    more = xs ++ n ∷ []

    longer : length (xs ++ n ∷ []) ≡ length xs + 1
    longer = length-append xs (n ∷ [])

    old : (i : ℕ) → i < length xs → slice_index (xs ++ n ∷ []) i ≡ slice_index xs i
    old i less = get_or_append_left xs (n ∷ []) 0 i less

    last : (i : ℕ) → length xs ≡ i → slice_index (xs ++ n ∷ []) i ≡ n
    last i e = get_or_push xs n 0 i e

    places : (i : ℕ) → i < length (xs ++ n ∷ []) → (i < length xs) ⊎ (length xs ≡ i)
    places i under = elim (cases_lt i (length xs)) [
      | inl less ↦ inl less
      | inr past ↦ let e : length xs ≡ i = omega (arith, under, longer, past) in inr e
    ]

    chosen_more : AreChosen P (suc n) (xs ++ n ∷ [])
    chosen_more = record {
      ascends = λ i j less under. elim (places j under) [
        | inl inside ↦
            let first : i < length xs = omega (arith, less, inside) in
            subst (λ (x : ℕ). x < slice_index more j) (sym (old i first)) (subst (λ (y : ℕ). slice_index xs i < y) (sym (old j inside)) (chosen.ascends i j less inside))
        | inr e ↦
            let first : i < length xs = omega (arith, less, e) in
            subst (λ (x : ℕ). x < slice_index more j) (sym (old i first)) (subst (λ (y : ℕ). slice_index xs i < y) (sym (last j e)) (chosen.each i first).0)
      ];
      each = λ i under. elim (places i under) [
        | inl inside ↦
            let own = chosen.each i inside in
            let less : slice_index xs i < n = own.0 in
            (subst (λ (x : ℕ). x < suc n) (sym (old i inside)) (omega (arith, less)), ap P (old i inside) ∙ own.1)
        | inr e ↦ (subst (λ (x : ℕ). x < suc n) (sym (last i e)) (omega arith), ap P (last i e) ∙ member)
      ];
      every = λ k less is. elim (cases_lt k n) [
        | inl before ↦
            let found = chosen.every k before is in
            let under : found.0 < length more = omega (arith, found.1, longer) in
            (found.0, under, old found.0 found.1 ∙ found.2)
        | inr past ↦
            let e : n ≡ k = omega (arith, less, past) in
            let under : length xs < length more = omega (arith, longer) in
            (length xs, under, last (length xs) refl ∙ e)
      ];
    }

  -- and one at which it gives false
  chosen_same : P n ≡ false → AreChosen P (suc n) xs
  chosen_same none = record {
    ascends = chosen.ascends;
    each = λ i under. let own = chosen.each i under in let less : slice_index xs i < n = own.0 in (omega (arith, less), own.1);
    every = λ k less is. elim (cases_lt k n) [
      | inl before ↦ chosen.every k before is
      | inr past ↦ let e : k ≡ n = omega (arith, less, past) in absurd (true≢false (sym is ∙ ap P e ∙ none))
    ];
  }

chosen_some : (P : ℕ → Bool) (n : ℕ) → (xs : List ℕ) × AreChosen P n xs
chosen_some P zero = ([], record { ascends = λ i j less under. absurd (omega (arith, under)); each = λ i under. absurd (omega (arith, under)); every = λ k less is. absurd (omega (arith, less)) })
chosen_some P (suc n) =
    let before = chosen_some P n in
    elim (cases_Bool (P n)) [
      | inl member ↦ (before.0 ++ n ∷ [], chosen_more P n before.0 before.1 member)
      | inr none ↦ (before.0, chosen_same P n before.0 before.1 none)
    ]

-- a property that a test decides below a bound, and that has no number above it, has a listing
pub listing_some : (P : ℕ → Bool) (A : ℕ → Type 0) (n : ℕ) → ((k : ℕ) → A k → (k < n) × (P k ≡ true)) → ((k : ℕ) → k < n → P k ≡ true → A k) → (xs : List ℕ) × IsListing A xs
listing_some P A n forth back =
    let found = chosen_some P n in
    let xs = found.0 in
    let chosen = found.1 in (
      xs,
      record {
        ascends = chosen.ascends;
        exactly = λ k. (
          (λ c.
              let at : slice_index xs c.0 ≡ k = sym (get_or_default_zero xs c.0 k c.1) ∙ c.2 in
              let own = chosen.each c.0 c.1 in
              subst A at (back (slice_index xs c.0) own.0 own.1)),
          (λ a.
              let is = forth k a in
              let place = chosen.every k is.0 is.1 in
              subst (Contains xs) place.2 (Contains-get_or xs place.0 0 place.1)),
        );
      },
    )

-- ---- greatest common divisors
gcd_within : (fuel a b : ℕ) → b < fuel → (g : ℕ) × IsGcd a b g
gcd_within zero a b h = absurd (omega (arith, h))
gcd_within (suc fuel) a zero h = (a, IsGcd-from_zero a 0 refl)
gcd_within (suc fuel) a (suc b) h =
    let less : a % suc b < suc b = mod-lt a (omega arith) in
    let rest = gcd_within fuel (suc b) (a % suc b) (omega (arith, h, less)) in
    (rest.0, IsGcd-from_mod a (suc b) rest.0 rest.1)

gcd_some : (a b : ℕ) → (g : ℕ) × IsGcd a b g
gcd_some a b = gcd_within (suc b) a b (omega arith)

-- of the two parts of a K-integer
parts_gcd : (x : Quad) → (g : ℕ) × IsGcd (unsigned_abs x.a) (unsigned_abs x.b) g
parts_gcd x = gcd_some (unsigned_abs x.a) (unsigned_abs x.b)

-- a K-integer over a number that divides both parts
divided : ℕ → Quad → Quad
divided g x = quad (int_div x.a (pos g)) (int_div x.b (pos g))

divided_out : (g : ℕ) (x : Quad) → DividesParts g x → x ≡ scaled (pos g) (divided g x)
unfolding divided
divided_out g x h i = quad (exact_quotient x.a (pos g) h.0 i) (exact_quotient x.b (pos g) h.1 i)

-- a triple that isn't zero, with its greatest common divisor taken out
module _ (full : Triple) where
  abbrev first : (g : ℕ) × IsGcd (unsigned_abs full.0.a) (unsigned_abs full.0.b) g
  first = parts_gcd full.0

  abbrev second : (g : ℕ) × IsGcd (unsigned_abs full.1.a) (unsigned_abs full.1.b) g
  second = parts_gcd full.1

  abbrev third : (g : ℕ) × IsGcd (unsigned_abs full.2.a) (unsigned_abs full.2.b) g
  third = parts_gcd full.2

  reduced_from : (two all : ℕ) → IsGcd first.0 second.0 two → IsGcd two third.0 all → ¬ (full ≡ zeros) → (x : Triple) × IsReduced full x
  reduced_from two all both three some =
      let to_first : all ∣ first.0 = dvd_trans all three.0 both.0 in
      let to_second : all ∣ second.0 = dvd_trans all three.0 both.1 in
      let x : Triple = (divided all full.0, divided all full.1, divided all full.2) in
      let out : full ≡ times all x = λ i. (
        divided_out all full.0 (dvd_trans all to_first first.1.0, dvd_trans all to_first first.1.1) i,
        divided_out all full.1 (dvd_trans all to_second second.1.0, dvd_trans all to_second second.1.1) i,
        divided_out all full.2 (dvd_trans all three.1 third.1.0, dvd_trans all three.1 third.1.1) i,
      ) in
      let greatest : (k : ℕ) → DividesAll k (full.0 ∷ full.1 ∷ full.2 ∷ []) → k ∣ all =
      λ k h.
      let a : DividesParts k full.0 = h 0 full.0 (omega arith) in
      let b : DividesParts k full.1 = h 1 full.0 (omega arith) in
      let c : DividesParts k full.2 = h 2 full.0 (omega arith) in
      three.2 k (both.2 k (first.1.2 k a.0 a.1) (second.1.2 k b.0 b.1)) (third.1.2 k c.0 c.1) in (
        x,
        record {
          divisor = all;
          taken_out = out;
          reduced = primitive_left all (full.0 ∷ full.1 ∷ full.2 ∷ []) (x.0 ∷ x.1 ∷ x.2 ∷ []) (divisor_some all full x out some) greatest (ap (λ (t : Triple). t.0 ∷ t.1 ∷ t.2 ∷ []) out);
        },
      )

  pub reduced_some : ¬ (full ≡ zeros) → (x : Triple) × IsReduced full x
  reduced_some some =
      let both = gcd_some first.0 second.0 in
      let three = gcd_some both.0 third.0 in
      reduced_from both.0 three.0 both.1 three.1 some
