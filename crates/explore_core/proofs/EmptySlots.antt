-- Lists of slots.
use Rattle.std.proofs.Common.{◌≡◌, ℕ, zero, suc, ◌+◌, ◌<◌, ◌≤◌, List, [], ◌∷◌, length, set, Option, Some, None, replicate, refl, ap, arith}
use Rattle.std.specs.Prelude.{is_some, true, false}
use Rattle.terrain.specs.Places.{IsAt}
use Rattle.explore_core.specs.Books.{empties}

module _ {A : Type 0} where
  -- slots that were never filled
  pub none_filled : (n w : ℕ) (x : A) → IsAt (replicate {A = Option A} n None) w (Some x) → ⊥
  none_filled zero w x e = cc
  none_filled (suc n) zero x e = cc
  none_filled (suc n) (suc w) x e = none_filled n w x e

  -- filling a slot leaves one empty slot less
  pub empties-set : (xs : List (Option A)) (w : ℕ) (x : A) → IsAt xs w None → empties (set xs w (Some x)) + 1 ≡ empties xs
  empties-set [] w x e = cc
  empties-set (None ∷ xs) zero x e = omega arith
  empties-set (Some y ∷ xs) zero x e = cc
  empties-set (None ∷ xs) (suc w) x e = let h = empties-set xs w x e in omega arith
  empties-set (Some y ∷ xs) (suc w) x e = empties-set xs w x e

  -- with none empty, each is filled
  pub none_empty : (xs : List (Option A)) (w : ℕ) → empties xs ≡ 0 → w < length xs → (x : A) × IsAt xs w (Some x)
  none_empty [] w z h = absurd (omega arith)
  none_empty (None ∷ xs) w z h = absurd (omega arith)
  none_empty (Some y ∷ xs) zero z h = (y, refl)
  none_empty (Some y ∷ xs) (suc w) z h = none_empty xs w z (omega arith)

  pub empties_few : (xs : List (Option A)) → empties xs ≤ length xs
  empties_few [] = omega arith
  empties_few (None ∷ xs) = let h = empties_few xs in omega arith
  empties_few (Some y ∷ xs) = let h = empties_few xs in omega arith

  pub none_from : (o : Option A) → is_some o ≡ false → o ≡ None
  none_from None e = refl
  none_from (Some x) e = cc

  pub some_from : (o : Option A) → is_some o ≡ true → (x : A) × (o ≡ Some x)
  some_from None e = cc
  some_from (Some x) e = (x, refl)

  pub none_or_some : (o : Option A) → o ≡ None → is_some o ≡ true → ⊥
  none_or_some None a b = cc
  none_or_some (Some x) a b = cc

pub empties-replicate : (A : Type 0) (n : ℕ) → empties (replicate {A = Option A} n None) ≡ n
empties-replicate A zero = refl
empties-replicate A (suc n) = ap suc (empties-replicate A n)
