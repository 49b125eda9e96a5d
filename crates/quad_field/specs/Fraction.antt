-- For private functions alone, no public contract cites it: fractions against √d and against its complete quotients (s + √d) / t.
use Rattle.std.specs.Prelude.{◌≡◌, ℕ, suc, ◌+◌, ◌*◌, ◌-◌, ◌<◌, ◌≤◌}

-- p < q·√d, by squares
abbrev pub IsBelowRoot : ℕ → ℕ → ℕ → Type 0
IsBelowRoot d p q = p * p < d * (q * q)

-- p / q < (s + √d) / t, by squares: p·t - s·q < q·√d, where a difference below zero is cut off at zero
abbrev pub IsBelowQuotient : ℕ → ℕ → ℕ → ℕ → ℕ → Type 0
IsBelowQuotient d p q s t = IsBelowRoot d (p * t - s * q) q

-- (s + √d) / t is a complete quotient of the continued fraction of √d, and w is the t before it:
-- the whole part of √d is k, and t·w = d - s²
pub record IsCompleteQuotient (d k s t w : ℕ) : Type 0 where
  pub root_low : k * k < d
  pub root_high : d < suc k * suc k
  pub small : s ≤ k
  pub some : 1 ≤ t
  pub reach : t ≤ s + k
  pub whole : t * w + s * s ≡ d
