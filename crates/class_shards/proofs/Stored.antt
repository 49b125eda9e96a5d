-- What a shard stores, and the rows that it shows.
use Rattle.std.proofs.Common.{◌≡◌, ℕ, zero, suc, List, [], ◌∷◌, ◌++◌, length, map, set, Option, Some, None, replicate, refl, sym, ap, ◌∙◌, arith}
use Rattle.std.specs.Prelude.{ℤ, option_map}
use Rattle.terrain.specs.Places.{IsAt}
use Rattle.explore_core.specs.Books.{Row, Slot, keys_of, empty_row}
use Rattle.explore_core.specs.Events.{with_slot}
use Rattle.class_shards.specs.Stored.{rows_from}

pub map_none : {A B : Type 0} (f : A → B) (n : ℕ) → map (option_map f) (replicate {A = Option A} n None) ≡ replicate {A = Option B} n None
map_none f zero = refl
map_none {A} {B} f (suc n) = ap (λ (l : List (Option B)). None ∷ l) (map_none f n)

pub map_set : {A B : Type 0} (f : A → B) (xs : List A) (i : ℕ) (y : A) → map f (set xs i y) ≡ set (map f xs) i (f y)
map_set f [] i y = refl
map_set f (x ∷ xs) zero y = refl
map_set f (x ∷ xs) (suc i) y = ap (λ l. f x ∷ l) (map_set f xs i y)

module _ {X R L : Type 0} (number : X → List ℤ) (slots : R → List (Option (Slot L))) where
  pub rows_length : (keys : List X) (rows : List R) → length keys ≡ length rows → length (rows_from number slots keys rows) ≡ length rows
  rows_length [] [] e = refl
  rows_length [] (r ∷ rows) e = absurd (omega arith)
  rows_length (k ∷ keys) [] e = absurd (omega arith)
  rows_length (k ∷ keys) (r ∷ rows) e = ap suc (rows_length keys rows (omega arith))

  pub keys_shown : (keys : List X) (rows : List R) → length keys ≡ length rows → map number keys ≡ keys_of (rows_from number slots keys rows)
  keys_shown [] [] e = refl
  keys_shown [] (r ∷ rows) e = absurd (omega arith)
  keys_shown (k ∷ keys) [] e = absurd (omega arith)
  keys_shown (k ∷ keys) (r ∷ rows) e = ap (λ (l : List (List ℤ)). number k ∷ l) (keys_shown keys rows (omega arith))

  rows_push : (keys : List X) (rows : List R) (k : X) (r : R) → length keys ≡ length rows → rows_from number slots (keys ++ k ∷ []) (rows ++ r ∷ []) ≡ rows_from number slots keys rows ++ record { key = number k; slots = slots r } ∷ []
  rows_push [] [] k r e = refl
  rows_push [] (q ∷ rows) k r e = absurd (omega arith)
  rows_push (j ∷ keys) [] k r e = absurd (omega arith)
  rows_push (j ∷ keys) (q ∷ rows) k r e = ap (λ (l : List (Row L)). record { key = number j; slots = slots q } ∷ l) (rows_push keys rows k r (omega arith))

  -- one key at the end
  pub added : (keys keys' : List X) (rows rows' : List R) (k : X) (r : R) (n : ℕ) → length keys ≡ length rows → keys' ≡ keys ++ k ∷ [] → rows' ≡ rows ++ r ∷ [] → slots r ≡ replicate n None → rows_from number slots keys' rows' ≡ rows_from number slots keys rows ++ empty_row (number k) n ∷ []
  added keys keys' rows rows' k r n long a b empty = (λ i. rows_from number slots (a i) (b i)) ∙ rows_push keys rows k r long ∙ ap (λ (l : List (Option (Slot L))). rows_from number slots keys rows ++ record { key = number k; slots = l } ∷ []) empty

  -- the slots that stand at a place
  pub slots_shown : (keys : List X) (rows : List R) (i : ℕ) (s : Row L) (r : R) → IsAt (rows_from number slots keys rows) i s → IsAt rows i r → s.slots ≡ slots r
  slots_shown [] rows i s r at at' = cc
  slots_shown (k ∷ keys) [] i s r at at' = cc
  slots_shown (k ∷ keys) (q ∷ rows) zero s r at at' = (let e : record { key = number k; slots = slots q } ≡ s = cc in sym (ap (λ (x : Row L). x.slots) e)) ∙ (let f : q ≡ r = cc in ap slots f)
  slots_shown (k ∷ keys) (q ∷ rows) (suc i) s r at at' = slots_shown keys rows i s r at at'

  row_set : (keys : List X) (rows : List R) (i : ℕ) (q : R) (s : Row L) → IsAt (rows_from number slots keys rows) i s → rows_from number slots keys (set rows i q) ≡ set (rows_from number slots keys rows) i (record { key = s.key; slots = slots q })
  row_set [] rows i q s at = cc
  row_set (k ∷ keys) [] i q s at = cc
  row_set (k ∷ keys) (r ∷ rows) zero q s at = let e : record { key = number k; slots = slots r } ≡ s = cc in ap (λ (x : List ℤ). record { key = x; slots = slots q } ∷ rows_from number slots keys rows) (ap (λ (x : Row L). x.key) e)
  row_set (k ∷ keys) (r ∷ rows) (suc i) q s at = ap (λ (l : List (Row L)). record { key = number k; slots = slots r } ∷ l) (row_set keys rows i q s at)

  -- one slot written
  pub written : (keys : List X) (rows : List R) (i : ℕ) (r q : R) (s : Row L) (wall : ℕ) (slot : Slot L) → IsAt (rows_from number slots keys rows) i s → IsAt rows i r → slots q ≡ set (slots r) wall (Some slot) → rows_from number slots keys (set rows i q) ≡ set (rows_from number slots keys rows) i (with_slot s wall slot)
  written keys rows i r q s wall slot at at' new =
      row_set keys rows i q s at
      ∙ ap (λ (l : List (Option (Slot L))). set (rows_from number slots keys rows) i (record { key = s.key; slots = l })) (new ∙ ap (λ (l : List (Option (Slot L))). set l wall (Some slot)) (sym (slots_shown keys rows i s r at at')))
