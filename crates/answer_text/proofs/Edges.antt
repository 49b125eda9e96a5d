-- Counting the edges, one half-edge after another.
use Rattle.std.proofs.Common.{◌≡◌, ℕ, ◌+◌, ◌<◌, Bool, true, false, nat_lt, take, length, get_or, IsTrue, ◌↔◌, ap, sym, ◌∙◌, arith, zero-add}
use Rattle.std.specs.Prelude.{count_by}
use Rattle.std.specs.List.{range_with_len}
use Rattle.std.proofs.lemmas.List.FromFn.{get_or-range_with_len, length-range_with_len}
use Rattle.std.proofs.lemmas.List.Sums.{count_by_more_yes, count_by_more_no}
use Rattle.std.proofs.lemmas.List.{take_all}
use Rattle.std.proofs.lemmas.Bool.Decides.{nat_tests}

module _ (p : ℕ → Bool) (n h : ℕ) (less : h < n) where
  read : p (get_or (range_with_len 0 n) h 0) ≡ p h
  read = ap p (get_or-range_with_len 0 n h 0 less ∙ zero-add h)

  within : h < length (range_with_len 0 n)
  within = omega (arith, length-range_with_len 0 n, less)

  -- h is counted
  pub one_more : (e f : ℕ) → e ≡ count_by p (take h (range_with_len 0 n)) → p h ≡ true → f ≡ e + 1 → f ≡ count_by p (take (h + 1) (range_with_len 0 n))
  one_more e f i t s = s ∙ ap (λ x. x + 1) i ∙ sym (count_by_more_yes p (range_with_len 0 n) h 0 within (read ∙ t))

  -- h isn't
  pub no_more : (e f : ℕ) → e ≡ count_by p (take h (range_with_len 0 n)) → p h ≡ false → f ≡ e → f ≡ count_by p (take (h + 1) (range_with_len 0 n))
  no_more e f i t s = s ∙ i ∙ sym (count_by_more_no p (range_with_len 0 n) h 0 within (read ∙ t))

-- the test of an edge, as a comparison with the twin
pub is_less : (b : Bool) (h n twin : ℕ) → b ≡ true → (IsTrue b ↔ ((h < n) × (h < twin))) → nat_lt h twin ≡ true
is_less b h n twin e same = let k = same.0 e in grind (arith, nat_tests)

pub is_not_less : (b : Bool) (h n twin : ℕ) → b ≡ false → (IsTrue b ↔ ((h < n) × (h < twin))) → h < n → nat_lt h twin ≡ false
is_not_less b h n twin e same less = grind (arith, nat_tests)

-- all half-edges were looked at
pub all_counted : (p : ℕ → Bool) (n h e : ℕ) → h ≡ n → e ≡ count_by p (take h (range_with_len 0 n)) → e ≡ count_by p (range_with_len 0 n)
all_counted p n h e s i = i ∙ ap (count_by p) (take_all h (range_with_len 0 n) (omega (arith, length-range_with_len 0 n, s)))
