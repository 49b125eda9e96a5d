-- The rows of keys and their slots, one after the other.
use Rattle.std.proofs.Common.{◌≡◌, ℕ, zero, suc, ◌≤◌, List, [], ◌∷◌, ◌++◌, length, drop, Option, refl, sym, ap, ◌∙◌, append_assoc, arith}
use Rattle.std.specs.Prelude.{ℤ}
use Rattle.terrain.specs.Places.{IsAt}
use Rattle.explore_core.specs.Books.{Slot, Row}
use Rattle.class_shards.specs.Stored.{rows_from}

module _ {A : Type 0} where
  -- what is left of a list begins with the element at that place
  pub drop_at : (xs : List A) (n : ℕ) (y : A) (rest : List A) → drop n xs ≡ y ∷ rest → IsAt xs n y × (drop (suc n) xs ≡ rest)
  drop_at [] zero y rest e = cc
  drop_at [] (suc n) y rest e = cc
  drop_at (x ∷ xs) zero y rest e = (cc, cc)
  drop_at (x ∷ xs) (suc n) y rest e = drop_at xs n y rest e

  -- nothing is left of a list only at its end
  pub drop_none : (xs : List A) (n : ℕ) → drop n xs ≡ [] → length xs ≤ n
  drop_none [] n e = omega arith
  drop_none (x ∷ xs) zero e = cc
  drop_none (x ∷ xs) (suc n) e = let h = drop_none xs n e in omega arith

module _ {X R L : Type 0} (number : X → List ℤ) (slots : R → List (Option (Slot L))) where
  pub rows_long : (xs : List X) (ys : List R) → length xs ≡ length ys → length (rows_from number slots xs ys) ≡ length xs
  rows_long [] ys e = refl
  rows_long (x ∷ xs) [] e = absurd (omega arith)
  rows_long (x ∷ xs) (y ∷ ys) e = let h = rows_long xs ys (omega arith) in omega arith

  -- one key more
  pub rows_snoc : (xs : List X) (ys : List R) (x : X) (y : R) → IsAt ys (length xs) y → rows_from number slots (xs ++ x ∷ []) ys ≡ rows_from number slots xs ys ++ record { key = number x; slots = slots y } ∷ []
  rows_snoc [] [] x y at = cc
  rows_snoc [] (z ∷ ys) x y at = let e : z ≡ y = cc in ap (λ (u : R). record { key = number x; slots = slots u } ∷ []) e
  rows_snoc (w ∷ xs) [] x y at = cc
  rows_snoc (w ∷ xs) (z ∷ ys) x y at = ap (λ (l : List (Row L)). record { key = number w; slots = slots z } ∷ l) (rows_snoc xs ys x y at)

  -- one key more behind others
  pub rows_more : (base all more : List (Row L)) (xs : List X) (ys : List R) (x : X) (y : R) → all ≡ base ++ rows_from number slots xs ys → more ≡ all ++ record { key = number x; slots = slots y } ∷ [] → IsAt ys (length xs) y → more ≡ base ++ rows_from number slots (xs ++ x ∷ []) ys
  rows_more base all more xs ys x y a b at =
      let last : List (Row L) = record { key = number x; slots = slots y } ∷ [] in
      let regroup : (base ++ rows_from number slots xs ys) ++ last ≡ base ++ (rows_from number slots xs ys ++ last) = simp append_assoc in
      b ∙ ap (λ (l : List (Row L)). l ++ last) a ∙ regroup ∙ ap (λ (l : List (Row L)). base ++ l) (sym (rows_snoc xs ys x y at))
