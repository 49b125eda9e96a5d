-- The last entry and those before it, and the entries that a keeper makes.
use Rattle.std.proofs.Common.{◌≡◌, ℕ, zero, suc, ◌+◌, ◌<◌, ◌≤◌, ◌==◌, ◌&&◌, List, [], ◌∷◌, length, Some, None, Option, ltb, refl, ap, ◌∙◌, arith, eq-eqb}
use Rattle.std.proofs.lemmas.Bool.Decides.{nat_tests}
use Rattle.walls_out.specs.declared.entry.Entry.{Entry}
use Rattle.walls_out.specs.Views.{fresh, front_of, last_of}
use Rattle.walls_out.specs.Counting.{total, one_if, one_root, one_wall, numbered, below}

pub total-front_last : (f : Entry → ℕ) (xs : List Entry) → total f (front_of xs) + total f (last_of xs) ≡ total f xs
total-front_last f [] = omega arith
total-front_last f (x ∷ []) = omega arith
total-front_last f (x ∷ y ∷ ys) = omega (arith, total-front_last f (y ∷ ys))

pub length-front_last : (xs : List Entry) → length (front_of xs) + length (last_of xs) ≡ length xs
length-front_last [] = refl
length-front_last (x ∷ []) = refl
length-front_last (x ∷ y ∷ ys) = omega (arith, length-front_last (y ∷ ys))

pub length-last : (xs : List Entry) → 0 < length xs → length (last_of xs) ≡ 1
length-last [] h = absurd (omega arith)
length-last (x ∷ []) h = refl
length-last (x ∷ y ∷ ys) h = length-last (y ∷ ys) (omega arith)

pub length-fresh : (b m n : ℕ) → length (fresh (Some b) m n) ≡ n
length-fresh b m zero = refl
length-fresh b m (suc n) = omega (arith, length-fresh b (suc m) n)

pub fresh-root : (o : Option ℕ) (m n : ℕ) → total one_root (fresh o m n) ≡ 0
fresh-root None m n = refl
fresh-root (Some b) m zero = refl
fresh-root (Some b) m (suc n) = omega (arith, fresh-root (Some b) (suc m) n)

one_more : (b m k i : ℕ) → one_if ((b == k) && (m == i)) + one_if ((b == k) && ltb i m) ≡ one_if ((b == k) && ltb i (suc m))
one_more b m k i = grind (arith, nat_tests)

pub fresh-wall : (b m n k i : ℕ) → total (one_wall k i) (fresh (Some b) m n) + below (Some b) m k i ≡ below (Some b) (m + n) k i
fresh-wall b m zero k i = omega (arith, ap (λ x. below (Some b) x k i) (let e : m + 0 ≡ m = omega arith in e))
fresh-wall b m (suc n) k i = omega (arith, fresh-wall b (suc m) n k i, one_more b m k i, ap (λ x. below (Some b) x k i) (let e : suc m + n ≡ m + suc n = omega arith in e))

pub numbered_self : (o : Option ℕ) (k : ℕ) → o ≡ Some k → numbered o k ≡ 1
numbered_self o k e = ap (λ x. numbered x k) e ∙ ap one_if (eq-eqb k k refl)

pub below_self : (o : Option ℕ) (m k i : ℕ) → o ≡ Some k → i < m → below o m k i ≡ 1
below_self o m k i e h = ap (λ x. below x m k i) e ∙ here
  where
    here : one_if ((k == k) && ltb i m) ≡ 1
    here = grind (arith, nat_tests)

test_le : (b k i m : ℕ) → one_if ((b == k) && ltb i m) ≤ one_if (b == k)
test_le b k i m = grind (arith, nat_tests)

pub below_le : (o : Option ℕ) (m k i : ℕ) → below o m k i ≤ numbered o k
below_le None m k i = omega arith
below_le (Some b) m k i = test_le b k i m

test_says : (b k i m : ℕ) → 0 < one_if ((b == k) && ltb i m) → i < m
test_says b k i m h = grind (arith, nat_tests)

pub below_says : (o : Option ℕ) (m k i : ℕ) → o ≡ Some k → 0 < below o m k i → i < m
below_says None m k i e h = absurd (omega arith)
below_says (Some b) m k i e h = test_says b k i m h

pub none_left : {A : Type 0} (xs : List A) → length xs ≡ 0 → xs ≡ []
none_left [] e = refl
none_left (x ∷ xs) e = absurd (omega arith)
