-- Why Euclid's quotients of p and q decide whether p / q is below a complete quotient of √d.
use Rattle.std.proofs.Common.{◌≡◌, ℕ, ◌+◌, ◌*◌, ◌-◌, ◌<◌, ◌≤◌, ◌≢◌, arith, ap, sym, subst}
use Rattle.std.proofs.lemmas.Nat.{mul-le, mul-lt}
use native.Mathlib.Nat.{le_refl}
use Rattle.quad_field.specs.Fraction.{IsBelowQuotient, IsCompleteQuotient}
use Rattle.quad_field.proofs.Root.{below_from_squares, cancel}

cancel_lt : (x y b : ℕ) → x * b < y * b → x < y
cancel_lt x y b h = grind arith

positive_factor : (x y : ℕ) → 0 < x * y → 1 ≤ x
positive_factor x y h = grind arith

-- n is the whole part of (s + k) / t
module _ (d k s t w n : ℕ) (c : IsCompleteQuotient d k s t w) (under : n * t ≤ s + k) (over : s + k < n * t + t) where
  -- the whole part is at least one
  pub one_at_least : 1 ≤ n
  one_at_least = positive_factor n t (omega (arith, c.reach))

  pub next_fits : s ≤ n * t
  next_fits = omega (arith, c.small, mul-le 1 t n t one_at_least (le_refl t))

  module _ (p q : ℕ) (more : 0 < q) where
    -- p / q ≤ n
    pub less_up_to : p ≤ n * q → IsBelowQuotient d p q s t
    less_up_to h = near (p * t - s * q) (omega (arith, mul-le p t (n * q) t h (le_refl t), mul-le (n * t) q (s + k) q under (le_refl q)))
      where
        near : (x : ℕ) → x ≤ k * q → x * x < d * (q * q)
        near x h = omega (arith, mul-le x x (k * q) (k * q) h h, mul-le (k * k + 1) (q * q) d (q * q) (omega (arith, c.root_low)) (le_refl (q * q)), mul-le 1 1 q q more more)

    -- p / q ≥ n + 1
    pub not_less_after : (n + 1) * q ≤ p → ¬ (IsBelowQuotient d p q s t)
    not_less_after h l = far (p * t - s * q) (omega (arith, mul-le ((n + 1) * q) t p t h (le_refl t), mul-le (s + k + 1) q ((n + 1) * t) q (omega arith) (le_refl q))) l
      where
        far : (x : ℕ) → (k + 1) * q ≤ x → x * x < d * (q * q) → ⊥
        far x h l = omega (arith, mul-le ((k + 1) * q) ((k + 1) * q) x x h h, mul-le d (q * q) ((k + 1) * (k + 1)) (q * q) (omega (arith, c.root_high)) (le_refl (q * q)))

  -- the next complete quotient
  module _ (s' : ℕ) (next : s' + s ≡ n * t) where
    pub next_small : s' ≤ k
    next_small = omega arith

    up_is : t * (w + n * s) ≡ d + s * s'
    up_is = omega (arith, c.whole, ap (λ x. s * x) next)

    down_is : t * (n * s') ≡ s' * s' + s * s'
    down_is = omega (arith, ap (λ x. s' * x) next)

    square_below : s' * s' < d
    square_below = omega (arith, mul-le s' s' k k next_small next_small, c.root_low)

    pub next_t_fits : n * s' ≤ w + n * s
    next_t_fits = cancel (n * s') (w + n * s) t c.some (omega (arith, up_is, down_is, square_below))

    module _ (t' : ℕ) (made : t' + n * s' ≡ w + n * s) where
      pub next_whole : t' * t + s' * s' ≡ d
      next_whole = omega (arith, ap (λ x. t * x) made, up_is, down_is)

      next_some : 1 ≤ t'
      next_some = positive t' next_whole
        where
          positive : (x : ℕ) → x * t + s' * s' ≡ d → 1 ≤ x
          positive x e = grind (arith, square_below)

      -- (k + 1 - s')·(k + 1 + s') + s'² is above d
      not_far : s' + k + 1 ≤ t' → ⊥
      not_far h =
          let e : (k + 1 - s') + s' ≡ k + 1 = omega (arith, next_small) in
          omega (arith, c.root_high, next_whole, mul-le (k + 1 - s') (k + 1 + s') t t' (omega arith) (omega (arith, h)), ap (λ x. x * (k + 1)) e, ap (λ x. s' * x) e)

      next_reach : t' ≤ s' + k
      next_reach = omega (arith, not_far)

      pub next_is : IsCompleteQuotient d k s' t' t
      next_is = record { root_low = c.root_low; root_high = c.root_high; small = next_small; some = next_some; reach = next_reach; whole = next_whole }

      -- p / q below one quotient is q / r above the next, for p ≡ n·q + r
      module _ (p q r : ℕ) (more : 0 < q) (rest : 0 < r) (split : p ≡ n * q + r) where
        abbrev u : ℕ
        u = q * s' + r * t

        cut_is : p * t - s * q ≡ u
        cut_is = omega (arith, ap (λ x. x * t) split, ap (λ x. q * x) next)

        -- the two differences of squares have one sign
        identity : (v : ℕ) → v + s' * r ≡ q * t' → t * (v * v) + t' * (u * u) ≡ t * (d * (r * r)) + t' * (d * (q * q))
        identity v e = omega (arith, ap (λ x. t * (x * x)) e, ap (λ x. t * (x * (s' * r))) e, ap (λ x. t * (r * r) * x) next_whole, ap (λ x. t' * (q * q) * x) next_whole)

        fits_from : u * u < d * (q * q) → s' * r < q * t'
        fits_from h =
            let below : s' * u < q * d = below_from_squares (s' * u) (q * d) (omega (arith, mul-lt (s' * s') (u * u) d (d * (q * q)) square_below h)) in
            cancel_lt (s' * r) (q * t') t (omega (arith, below, ap (λ x. q * x) next_whole))

        above_from : (v : ℕ) → v + s' * r ≡ q * t' → u * u < d * (q * q) → v * v < d * (r * r) → ⊥
        above_from v e h l = omega (arith, identity v e, mul-le t' (u * u + 1) t' (d * (q * q)) (le_refl t') (omega arith), mul-le t (v * v + 1) t (d * (r * r)) (le_refl t) (omega arith), c.some)

        below_by : (v : ℕ) → v + s' * r ≡ q * t' → d * (r * r) ≤ v * v → u * u ≤ d * (q * q)
        below_by v e h = cancel (u * u) (d * (q * q)) t' next_some (omega (arith, identity v e, mul-le t (d * (r * r)) t (v * v) (le_refl t) h))

        pub turn_there : IsBelowQuotient d p q s t → ¬ (IsBelowQuotient d q r s' t')
        turn_there l m =
            let h : u * u < d * (q * q) = subst (λ x. x * x < d * (q * q)) cut_is l in
            above_from (q * t' - s' * r) (omega (arith, fits_from h)) h m

        pub turn_back : ((a b : ℕ) → a * a ≡ d * (b * b) → b ≡ 0) → ¬ (IsBelowQuotient d q r s' t') → IsBelowQuotient d p q s t
        turn_back never m =
            let v = q * t' - s' * r in
            let h : d * (r * r) ≤ v * v = omega (arith, m) in
            let some : 1 ≤ v = positive_factor v v (omega (arith, h, mul-le 1 1 d (r * r) (omega (arith, c.root_low)) (mul-le 1 1 r r rest rest))) in
            let at_most : u * u ≤ d * (q * q) = below_by v (omega (arith, some)) h in
            let apart : u * u ≢ d * (q * q) = λ e. let z : q ≡ 0 = never u q e in omega (arith, z, more) in
            subst (λ x. x * x < d * (q * q)) (sym cut_is) (omega (arith, at_most, apart))
