-- The cases of `is_below_quotient`, over plain numbers.
use Rattle.std.proofs.Common.{◌≡◌, ℕ, ◌+◌, ◌*◌, ◌-◌, ◌/◌, ◌<◌, ◌≤◌, ◌↔◌, IsTrue, Bool, true, false, not, arith, refl}
use Rattle.std.proofs.lemmas.Nat.{mul-le, div-add-mod', mod_below}
use native.Mathlib.Nat.{le_refl}
use Rattle.quad_field.specs.FieldNumber.{IsSquareFree}
use Rattle.quad_field.proofs.Root.{irrational}
use Rattle.quad_field.specs.Fraction.{IsBelowQuotient, IsCompleteQuotient}
use Rattle.quad_field.proofs.Quotients.{less_up_to, not_less_after, next_fits, next_t_fits, next_is, next_small, turn_there, turn_back}

pub never_true : IsTrue false → ⊥
never_true y = grind arith

divided : (a b : ℕ) → 0 < b → (a / b * b ≤ a) × (a < a / b * b + b)
divided a b h = (omega (arith, div-add-mod' a b), omega (arith, div-add-mod' a b, mod_below a b h))

module _ (d k s t w : ℕ) (c : IsCompleteQuotient d k s t w) where
  under : (s + k) / t * t ≤ s + k
  under = (divided (s + k) t c.some).0

  over : s + k < (s + k) / t * t + t
  over = (divided (s + k) t c.some).1

  pub n_small : (s + k) / t ≤ s + k
  n_small = omega (arith, under, mul-le ((s + k) / t) 1 ((s + k) / t) t (le_refl _) c.some)

  module _ (p q : ℕ) (more : 0 < q) where
    pub below_case : p ≤ (s + k) / t * q → IsBelowQuotient d p q s t
    below_case h = less_up_to d k s t w ((s + k) / t) c under over p q more h

    pub above_case : (s + k) / t * q + q ≤ p → ¬ (IsBelowQuotient d p q s t)
    above_case h = not_less_after d k s t w ((s + k) / t) c under over p q more (omega (arith, h))

  pub s_fits : s ≤ (s + k) / t * t
  s_fits = next_fits d k s t w ((s + k) / t) c under over

  abbrev pub next_s : ℕ
  next_s = (s + k) / t * t - s

  next_sum : next_s + s ≡ (s + k) / t * t
  next_sum = omega (arith, s_fits)

  pub t_fits : (s + k) / t * next_s ≤ w + (s + k) / t * s
  t_fits = next_t_fits d k s t w ((s + k) / t) c under over next_s next_sum

  abbrev pub next_t : ℕ
  next_t = w + (s + k) / t * s - (s + k) / t * next_s

  next_made : next_t + (s + k) / t * next_s ≡ w + (s + k) / t * s
  next_made = omega (arith, t_fits)

  pub next_quotient : IsCompleteQuotient d k next_s next_t t
  next_quotient = next_is d k s t w ((s + k) / t) c under over next_s next_sum next_t next_made

  -- the next numbers are at most of the size of d
  pub sizes : d ≤ 1000 → ((s + k) / t * s ≤ 2 * d) × ((s + k) / t * next_s ≤ 2 * d) × (w ≤ d)
  sizes h =
      let bound : (s + k) / t * s ≤ 2 * d = omega (arith, mul-le ((s + k) / t) s (k + k) k (omega (arith, n_small, c.small)) c.small, c.root_low) in
      let small : next_s ≤ k = next_small d k s t w ((s + k) / t) c under over next_s next_sum in (
        bound,
        omega (arith, mul-le ((s + k) / t) next_s (k + k) k (omega (arith, n_small, c.small)) small, c.root_low),
        omega (arith, c.whole, mul-le 1 w t w c.some (le_refl w)),
      )

  module _ (free : IsSquareFree d) (two : 2 ≤ d) (p q : ℕ) (more : 0 < q) where
    pub turn_case : (r : ℕ) → 0 < r → p ≡ (s + k) / t * q + r → (b : Bool) → (IsTrue b ↔ IsBelowQuotient d q r next_s next_t) → IsTrue (not b) ↔ IsBelowQuotient d p q s t
    turn_case r rest split b i = (
      λ y. turn_back d k s t w ((s + k) / t) c under over next_s next_sum next_t next_made p q r more rest split (λ a x z. (irrational d free two a x z).1) (λ l. not_both b y (i.1 l)),
      λ l. not_yes b (λ y. turn_there d k s t w ((s + k) / t) c under over next_s next_sum next_t next_made p q r more rest split l (i.0 y)),
    )
      where
        not_both : (b : Bool) → IsTrue (not b) → IsTrue b → ⊥
        not_both true y z = never_true y
        not_both false y z = never_true z

        not_yes : (b : Bool) → ¬ (IsTrue b) → IsTrue (not b)
        not_yes true f = absurd (f refl)
        not_yes false f = refl
