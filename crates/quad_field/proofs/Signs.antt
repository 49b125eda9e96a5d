-- The sign of a + b·√d, over plain numbers.
use Rattle.std.proofs.Common.{◌≡◌, ℕ, zero, suc, ◌+◌, ◌*◌, ◌<◌, ◌≤◌, ◌≢◌, ◌↔◌, IsTrue, Bool, true, false, not, arith, ap, refl, sym}
use mathlib.Core.Logic.{inl, inr}
use mathlib.Core.Path.{subst₂}
use Rattle.std.specs.Prelude.{ℤ, pos, negsuc, neg_ℤ, ◌*ℤ◌, ◌<ℤ◌, ◌≤ℤ◌, ◌⊎◌, unsigned_abs}
use Rattle.std.proofs.lemmas.Int.{ints, by_lt_z}
use borrow.Author.Differences.{up}
use Rattle.quad_field.specs.declared.quad.Quad.{Quad}
use Rattle.quad_field.specs.FieldNumber.{IsFieldNumber, IsSquareFree}
use Rattle.quad_field.specs.Fraction.{IsBelowRoot, IsCompleteQuotient}
use Rattle.quad_field.specs.Quads.{quad, quad_ops, IsPositive, IsZero}
use Rattle.quad_field.proofs.Root.{irrational}
use Rattle.quad_field.proofs.Squares.{below_strictly}
use Rattle.quad_field.proofs.Turns.{never_true}

-- a + b·√d > 0, where a² and d·b² are plain numbers s and t
abbrev pub Split : ℤ → ℤ → ℤ → ℤ → Type 0
Split a b s t =
    ((pos 0 ≤ℤ a) × (pos 0 ≤ℤ b) × ¬ ((a ≡ pos 0) × (b ≡ pos 0)))
    ⊎ (((pos 0 <ℤ a) × (b <ℤ pos 0) × (t <ℤ s))
    ⊎ ((a <ℤ pos 0) × (pos 0 <ℤ b) × (s <ℤ t)))

-- ---- zero, positive and negative exclude one another, and one of them holds
pub split_both : (a b s t : ℤ) → Split a b s t → Split (neg_ℤ a) (neg_ℤ b) s t → ⊥
split_both a b s t p q = grind (arith, ints)

pub split_zero : (a b s t : ℤ) → Split a b s t → a ≡ pos 0 → b ≡ pos 0 → ⊥
split_zero a b s t p e f = grind (arith, ints)

no_part_above : (a b s t : ℤ) → a ≤ℤ pos 0 → b ≤ℤ pos 0 → ¬ ((a ≡ pos 0) × (b ≡ pos 0)) → Split (neg_ℤ a) (neg_ℤ b) s t
no_part_above a b s t x y z = inl (omega (arith, ints), omega (arith, ints), λ e. z (omega (arith, ints, e.0), omega (arith, ints, e.1)))

other_below : (s t : ℤ) → s ≢ t → ¬ (t <ℤ s) → s <ℤ t
other_below s t e n = grind (arith, ints)

first_above : (a b s t : ℤ) → pos 0 <ℤ a → b <ℤ pos 0 → s ≢ t → ¬ (t <ℤ s) → Split (neg_ℤ a) (neg_ℤ b) s t
first_above a b s t x y e n = inr (inr (omega (arith, ints), omega (arith, ints), other_below s t e n))

second_above : (a b s t : ℤ) → a <ℤ pos 0 → pos 0 <ℤ b → s ≢ t → ¬ (s <ℤ t) → Split (neg_ℤ a) (neg_ℤ b) s t
second_above a b s t x y e n = inr (inl (omega (arith, ints), omega (arith, ints), other_below t s (λ q. e (sym q)) n))

split_one : (a b s t : ℤ) → ¬ ((a ≡ pos 0) × (b ≡ pos 0)) → s ≢ t → ¬ (Split a b s t) → Split (neg_ℤ a) (neg_ℤ b) s t
split_one a b s t z e n =
    by_lt_z (pos 0) a
    (λ x. by_lt_z b (pos 0) (λ y. first_above a b s t x y e (λ l. n (inr (inl (x, y, l))))) (λ y. absurd (n (inl (omega (arith, ints), y, z)))))
    (λ x. by_lt_z (pos 0) b (λ y. by_lt_z a (pos 0) (λ w. second_above a b s t w y e (λ l. n (inr (inr (w, y, l))))) (λ w. absurd (n (inl (w, omega (arith, ints), z))))) (λ y. no_part_above a b s t x y z))

pub square_neg : (a : ℤ) → neg_ℤ a *ℤ neg_ℤ a ≡ a *ℤ a
square_neg (pos zero) = refl
square_neg (pos (suc n)) = refl
square_neg (negsuc n) = refl

-- a² = d·b² only where both are zero
pub irrational_whole : (d : ℕ) → IsSquareFree d → 2 ≤ d → (a b : ℤ) → a *ℤ a ≡ pos d *ℤ (b *ℤ b) → (a ≡ pos 0) × (b ≡ pos 0)
irrational_whole d free two (pos m) (pos n) e = let r = irrational d free two m n (ap up e) in (ap pos r.0, ap pos r.1)
irrational_whole d free two (pos m) (negsuc n) e = let r = irrational d free two m (suc n) (ap up e) in absurd (omega (arith, r.1))
irrational_whole d free two (negsuc m) (pos n) e = let r = irrational d free two (suc m) n (ap up e) in absurd (omega (arith, r.0))
irrational_whole d free two (negsuc m) (negsuc n) e = let r = irrational d free two (suc m) (suc n) (ap up e) in absurd (omega (arith, r.0))

module _ (d : ℕ) (x : Quad) where
  abbrev Negative : Type 0
  Negative = Split (neg_ℤ x.a) (neg_ℤ x.b) (x.a *ℤ x.a) (pos d *ℤ (x.b *ℤ x.b))

  from_negative : Negative → IsPositive d ((quad_ops d).neg x)
  from_negative h = subst₂ (λ s t. Split (neg_ℤ x.a) (neg_ℤ x.b) s (pos d *ℤ t)) (sym (square_neg x.a)) (sym (square_neg x.b)) h

  to_negative : IsPositive d ((quad_ops d).neg x) → Negative
  to_negative h = subst₂ (λ s t. Split (neg_ℤ x.a) (neg_ℤ x.b) s (pos d *ℤ t)) (square_neg x.a) (square_neg x.b) h

  pub not_both : IsPositive d x → IsPositive d ((quad_ops d).neg x) → ⊥
  not_both p q = split_both x.a x.b (x.a *ℤ x.a) (pos d *ℤ (x.b *ℤ x.b)) p (to_negative q)

  pub not_zero_too : IsZero x → IsPositive d x → ⊥
  not_zero_too z p = split_zero x.a x.b (x.a *ℤ x.a) (pos d *ℤ (x.b *ℤ x.b)) p z.0 z.1

  pub negative_of_zero : IsZero x → IsPositive d ((quad_ops d).neg x) → ⊥
  negative_of_zero z p = split_zero (neg_ℤ x.a) (neg_ℤ x.b) (x.a *ℤ x.a) (pos d *ℤ (x.b *ℤ x.b)) (to_negative p) (ap neg_ℤ z.0) (ap neg_ℤ z.1)

  pub else_negative : IsFieldNumber d → ¬ (IsZero x) → ¬ (IsPositive d x) → IsPositive d ((quad_ops d).neg x)
  else_negative f z n =
      from_negative (split_one x.a x.b (x.a *ℤ x.a) (pos d *ℤ (x.b *ℤ x.b)) z (λ e. z (irrational_whole d f.2 f.0 x.a x.b e)) n)

-- ---- the cases of `is_positive`
square_is : (a : ℤ) → pos (unsigned_abs a * unsigned_abs a) ≡ a *ℤ a
square_is (pos n) = refl
square_is (negsuc n) = refl

not_zero : (a : ℤ) → a ≢ pos 0 → 0 < unsigned_abs a
not_zero a h = omega (arith, ints)

first_split : (a b : ℤ) (m n : ℕ) → pos 0 <ℤ a → b <ℤ pos 0 → n ≢ m → (¬ (m < n)) ↔ Split a b (pos m) (pos n)
first_split a b m n p q h = grind (arith, ints)

-- the first of the complete quotients is √d itself
pub first_quotient : (d k : ℕ) → IsFieldNumber d → k * k ≤ d → d < suc k * suc k → IsCompleteQuotient d k 0 1 d
first_quotient d k f low high =
    record { root_low = below_strictly d k f.2 f.0 low; root_high = high; small = omega arith; some = omega arith; reach = positive k high; whole = omega arith }
  where
    positive : (k : ℕ) → d < suc k * suc k → 1 ≤ 0 + k
    positive k h = let two = f.0 in grind arith

module _ (d : ℕ) (f : IsFieldNumber d) (a b : ℤ) where
  abbrev p : ℕ
  p = unsigned_abs a

  abbrev q : ℕ
  q = unsigned_abs b

  from_split : Split a b (pos (p * p)) (pos d *ℤ pos (q * q)) → IsPositive d (quad a b)
  from_split h = subst₂ (λ s t. Split a b s (pos d *ℤ t)) (square_is a) (square_is b) h

  to_split : IsPositive d (quad a b) → Split a b (pos (p * p)) (pos d *ℤ pos (q * q))
  to_split h = subst₂ (λ s t. Split a b s (pos d *ℤ t)) (sym (square_is a)) (sym (square_is b)) h

  pub first_case : pos 0 <ℤ a → b <ℤ pos 0 → (below : Bool) → (IsTrue below ↔ IsBelowRoot d p q) → IsTrue (not below) ↔ IsPositive d (quad a b)
  first_case x y below i =
      let apart : d * (q * q) ≢ p * p = λ e. let z : q ≡ 0 = (irrational d f.2 f.0 p q (sym e)).1 in omega (arith, z, not_zero b (omega (arith, ints))) in
      let e = first_split a b (p * p) (d * (q * q)) x y apart in
      (λ n. from_split (e.0 (λ l. is_not below n (i.1 l))), λ h. not_is below (λ t. e.1 (to_split h) (i.0 t)))
    where
      is_not : (b : Bool) → IsTrue (not b) → IsTrue b → ⊥
      is_not true s t = never_true s
      is_not false s t = never_true t

      not_is : (b : Bool) → ¬ (IsTrue b) → IsTrue (not b)
      not_is true f = absurd (f refl)
      not_is false f = refl
