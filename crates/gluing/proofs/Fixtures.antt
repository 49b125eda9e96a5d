-- What holds of all elements of a list, element by element.
use Rattle.std.proofs.Common.{◌≡◌, ℕ, zero, suc, ◌+◌, ◌<◌, ◌≤◌, List, [], ◌∷◌, length, take, get_or, replicate, subst, arith}
use Rattle.std.specs.List.{AllByRecursion}
use Rattle.std.proofs.lemmas.List.{take_all}

all_suc : {X : Type 0} (P : X → Type 0) (xs : List X) (i : ℕ) (d : X) → AllByRecursion P (take i xs) → i < length xs → P (get_or xs i d) → AllByRecursion P (take (suc i) xs)
all_suc P [] i d all h p = absurd (omega arith)
all_suc P (x ∷ xs) zero d all h p = (p, tt)
all_suc P (x ∷ xs) (suc i) d all h p = (all.0, all_suc P xs i d all.1 (omega arith) p)

-- one element more
pub all_more : {X : Type 0} (P : X → Type 0) (xs : List X) (i : ℕ) (d : X) → AllByRecursion P (take i xs) → i < length xs → P (get_or xs i d) → AllByRecursion P (take (i + 1) xs)
all_more P xs i d all h p =
    let e : suc i ≡ i + 1 = omega arith in
    subst (λ (n : ℕ). AllByRecursion P (take n xs)) e (all_suc P xs i d all h p)

-- all of them
pub all_taken : {X : Type 0} (P : X → Type 0) (xs : List X) (i : ℕ) → length xs ≤ i → AllByRecursion P (take i xs) → AllByRecursion P xs
all_taken P xs i h all = subst (AllByRecursion P) (take_all i xs h) all

-- copies of one element
pub all_copies : {X : Type 0} (P : X → Type 0) (n : ℕ) (x : X) → P x → AllByRecursion P (replicate n x)
all_copies P zero x p = tt
all_copies P (suc n) x p = (p, all_copies P n x p)
