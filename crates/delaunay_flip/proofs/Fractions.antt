-- The fractions of the standard points are in lowest terms.
use Rattle.std.proofs.Common.{◌≡◌, ℕ, zero, suc, ◌%◌, arith, refl, subst}
use Rattle.std.specs.Prelude.{ℤ, pos, neg_ℤ, ◌≤ℤ◌, unsigned_abs}
use Rattle.std.specs.Int.{IsGcd}
use Rattle.std.proofs.lemmas.Int.{ints}
use Rattle.std.proofs.lemmas.Nat.Gcd.{IsGcd-from_mod, IsGcd-from_zero}
use Rattle.surface_text.specs.Limits.{IsFraction, IsBasePoint}
use Rattle.std.specs.List.{AllByRecursion}
use Rattle.delaunay_flip.specs.Points.{point, standard_points}

-- Euclid's steps from a and b come to 1 and 0 after so many remainders
abbrev pub EndsInOne : ℕ → ℕ → ℕ → Type 0
EndsInOne zero a b = (b ≡ 0) × (a ≡ 1)
EndsInOne (suc k) a b = EndsInOne k b (a % b)

-- then no number above 1 divides both
pub lowest : (k a b : ℕ) → EndsInOne k a b → IsGcd a b 1
lowest zero a b h = subst (λ m. IsGcd a b m) h.1 (IsGcd-from_zero a b h.0)
lowest (suc k) a b h = IsGcd-from_mod a b 1 (lowest k b (a % b) h)

-- a fraction with such steps has its form
pub fraction : (k : ℕ) (n d : ℤ) → pos 1 ≤ℤ d → EndsInOne k (unsigned_abs n) (unsigned_abs d) → IsFraction n d
fraction k n d positive ends = (positive, λ _ _. lowest k (unsigned_abs n) (unsigned_abs d) ends)

first : IsBasePoint (point (pos 0) (pos 1) (pos 1) (pos 1))
first = record {
  form = (fraction 1 (pos 0) (pos 1) (omega (arith, ints)) (refl, refl), fraction 1 (pos 1) (pos 1) (omega (arith, ints)) (refl, refl));
  bounded = omega (arith, ints);
  above = omega (arith, ints);
}

second : IsBasePoint (point (pos 1) (pos 10) (pos 11) (pos 10))
second = record {
  form = (fraction 2 (pos 1) (pos 10) (omega (arith, ints)) (refl, refl), fraction 2 (pos 11) (pos 10) (omega (arith, ints)) (refl, refl));
  bounded = omega (arith, ints);
  above = omega (arith, ints);
}

third : IsBasePoint (point (pos 1) (pos 7) (pos 3) (pos 2))
third = record {
  form = (fraction 2 (pos 1) (pos 7) (omega (arith, ints)) (refl, refl), fraction 2 (pos 3) (pos 2) (omega (arith, ints)) (refl, refl));
  bounded = omega (arith, ints);
  above = omega (arith, ints);
}

fourth : IsBasePoint (point (pos 3) (pos 11) (pos 2) (pos 1))
fourth = record {
  form = (fraction 4 (pos 3) (pos 11) (omega (arith, ints)) (refl, refl), fraction 1 (pos 2) (pos 1) (omega (arith, ints)) (refl, refl));
  bounded = omega (arith, ints);
  above = omega (arith, ints);
}

fifth : IsBasePoint (point (neg_ℤ (pos 2)) (pos 13) (pos 5) (pos 4))
fifth = record {
  form = (fraction 3 (neg_ℤ (pos 2)) (pos 13) (omega (arith, ints)) (refl, refl), fraction 2 (pos 5) (pos 4) (omega (arith, ints)) (refl, refl));
  bounded = omega (arith, ints);
  above = omega (arith, ints);
}

sixth : IsBasePoint (point (pos 5) (pos 17) (pos 7) (pos 5))
sixth = record {
  form = (fraction 4 (pos 5) (pos 17) (omega (arith, ints)) (refl, refl), fraction 3 (pos 7) (pos 5) (omega (arith, ints)) (refl, refl));
  bounded = omega (arith, ints);
  above = omega (arith, ints);
}

seventh : IsBasePoint (point (neg_ℤ (pos 7)) (pos 19) (pos 9) (pos 5))
seventh = record {
  form = (fraction 5 (neg_ℤ (pos 7)) (pos 19) (omega (arith, ints)) (refl, refl), fraction 3 (pos 9) (pos 5) (omega (arith, ints)) (refl, refl));
  bounded = omega (arith, ints);
  above = omega (arith, ints);
}

eighth : IsBasePoint (point (pos 11) (pos 23) (pos 13) (pos 5))
eighth = record {
  form = (fraction 3 (pos 11) (pos 23) (omega (arith, ints)) (refl, refl), fraction 4 (pos 13) (pos 5) (omega (arith, ints)) (refl, refl));
  bounded = omega (arith, ints);
  above = omega (arith, ints);
}

-- all eight are base points
pub within : AllByRecursion IsBasePoint standard_points
within = (first, (second, (third, (fourth, (fifth, (sixth, (seventh, (eighth, _))))))))
