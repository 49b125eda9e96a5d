-- What users of the crate may cite: sums over lists of which one place changes.
use Rattle.std.proofs.Common.{◌≡◌, ℕ, zero, suc, ◌+◌, ◌<◌, ◌≤◌, List, [], ◌∷◌, ◌++◌, set, refl, sym, ap, arith}
use mathlib.Core.Option.{some, some-ne-none, some-injective}
use lib.ListN.{get_elem?}
use Rattle.walls_out.specs.Counting.{total}

module _ {A : Type 0} where
  pub total-append : (f : A → ℕ) (xs ys : List A) → total f (xs ++ ys) ≡ total f xs + total f ys
  total-append f [] ys = omega arith
  total-append f (x ∷ xs) ys = omega (arith, total-append f xs ys)

  pub total-set : (f : A → ℕ) (xs : List A) (i : ℕ) (a b : A) → get_elem? xs i ≡ some a → total f (set xs i b) + f a ≡ total f xs + f b
  total-set f [] i a b e = absurd (some-ne-none a (sym e))
  total-set f (x ∷ xs) zero a b e = omega (arith, ap f (some-injective x a e))
  total-set f (x ∷ xs) (suc i) a b e = omega (arith, total-set f xs i a b e)

  pub at-le-total : (f : A → ℕ) (xs : List A) (i : ℕ) (a : A) → get_elem? xs i ≡ some a → f a ≤ total f xs
  at-le-total f [] i a e = absurd (some-ne-none a (sym e))
  at-le-total f (x ∷ xs) zero a e = omega (arith, ap f (some-injective x a e))
  at-le-total f (x ∷ xs) (suc i) a e = omega (arith, at-le-total f xs i a e)

  -- a sum of nothing
  pub total-none : (f : A → ℕ) (xs : List A) → ((i : ℕ) (a : A) → get_elem? xs i ≡ some a → f a ≡ 0) → total f xs ≡ 0
  total-none f [] h = refl
  total-none f (x ∷ xs) h = omega (arith, h 0 x refl, total-none f xs (λ i a e. h (suc i) a e))

  -- each by itself at most, so the sum at most
  pub total-le : (f g : A → ℕ) (xs : List A) → ((i : ℕ) (a : A) → get_elem? xs i ≡ some a → f a ≤ g a) → total f xs ≤ total g xs
  total-le f g [] h = omega arith
  total-le f g (x ∷ xs) h = omega (arith, h 0 x refl, total-le f g xs (λ i a e. h (suc i) a e))

  -- what adds to a sum stands at some place
  pub some-in-total : (f : A → ℕ) (xs : List A) → 0 < total f xs → (i : ℕ) × (a : A) × (get_elem? xs i ≡ some a) × (0 < f a)
  some-in-total f [] h = absurd (omega arith)
  some-in-total f (x ∷ xs) h = at (f x) refl (λ h'. some-in-total f xs h')
    where
      at : (n : ℕ) → f x ≡ n → (0 < total f xs → (i : ℕ) × (a : A) × (get_elem? xs i ≡ some a) × (0 < f a)) → (i : ℕ) × (a : A) × (get_elem? (x ∷ xs) i ≡ some a) × (0 < f a)
      at zero e more = let r = more (omega arith) in (suc r.0, r.1, r.2, r.3)
      at (suc n) e more = (0, x, refl, omega arith)
