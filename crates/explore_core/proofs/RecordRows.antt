-- What records show, before and after a change.
use Rattle.std.proofs.Common.{◌≡◌, ◌≢◌, ℕ, zero, suc, ◌<◌, List, [], ◌∷◌, ◌++◌, length, map, get_or, set, Option, Some, None, replicate, refl, sym, ap, ◌∙◌, subst, ⊎_elim}
use Rattle.std.specs.Prelude.{ℤ, option_map}
use Rattle.std.proofs.lemmas.List.{map-append}
use Rattle.terrain.specs.Places.{IsAt}
use Rattle.terrain.proofs.CallerLemmas.{at_one, at_map, map_at, at_set, at_snoc, snoc_left}
use Rattle.explore_core.specs.declared.record.Filled.{Filled}
use Rattle.explore_core.specs.declared.record.Record.{Record}
use Rattle.explore_core.specs.Books.{Slot, Row, empty_row, keys_of}
use Rattle.explore_core.specs.Events.{with_slot}
use Rattle.explore_core.specs.Records.{slot_of, row_of, rows_from, ArePlaced}
use Rattle.explore_core.proofs.Sound.{map_set, keys_of-set, keys_of-append}
use Rattle.explore_core.proofs.EmptySlots.{none_filled}
use Rattle.explore_core.proofs.Elements.{key_read}

module _ {A B : Type 0} (f : A → B) where
  map-replicate_none : (n : ℕ) → map (option_map f) (replicate {A = Option A} n None) ≡ replicate {A = Option B} n None
  map-replicate_none zero = refl
  map-replicate_none (suc n) = ap (λ l. None ∷ l) (map-replicate_none n)

  pub none_shown : (xs : List (Option A)) (w : ℕ) → IsAt xs w None → IsAt (map (option_map f) xs) w None
  none_shown xs w at = at_map (option_map f) xs w None at

  pub some_shown : (xs : List (Option A)) (w : ℕ) (x : A) → IsAt xs w (Some x) → IsAt (map (option_map f) xs) w (Some (f x))
  some_shown xs w x at = at_map (option_map f) xs w (Some x) at

  pub none_behind : (xs : List (Option A)) (w : ℕ) → IsAt (map (option_map f) xs) w None → IsAt xs w None
  none_behind xs w at = let o = map_at (option_map f) xs w None at in o.1 ∙ ap Some (is o.0 o.2)
    where
      is : (o : Option A) → option_map f o ≡ None → o ≡ None
      is None e = refl
      is (Some x) e = cc

  pub some_behind : (xs : List (Option A)) (w : ℕ) (y : B) → IsAt (map (option_map f) xs) w (Some y) → (x : A) × IsAt xs w (Some x) × (f x ≡ y)
  some_behind xs w y at = let o = map_at (option_map f) xs w (Some y) at in is o.0 o.1 o.2
    where
      is : (o : Option A) → IsAt xs w o → option_map f o ≡ Some y → (x : A) × IsAt xs w (Some x) × (f x ≡ y)
      is None a e = cc
      is (Some x) a e = (x, a, cc)

module _ {K L : Type 0} (numbers : K → List ℤ) where
  pub row_read : (records : List (Record K L)) (i : ℕ) (r : Record K L) → i < length (rows_from numbers records) → r ≡ get_or records i r → IsAt (rows_from numbers records) i (row_of numbers r)
  row_read records i r h e = key_read (row_of numbers) records i r h e

  -- the keys, read from the records
  pub keys_are : (records : List (Record K L)) → map (λ (r : Record K L). numbers r.key) records ≡ keys_of (rows_from numbers records)
  keys_are [] = refl
  keys_are (r ∷ records) = ap (λ l. numbers r.key ∷ l) (keys_are records)

  pub rows-added : (records records' : List (Record K L)) (r : Record K L) (n : ℕ) → records' ≡ records ++ r ∷ [] → r.slots.items ≡ replicate n None → rows_from numbers records' ≡ rows_from numbers records ++ empty_row (numbers r.key) n ∷ []
  rows-added records records' r n is slots = ap (rows_from numbers) is ∙ map-append (row_of numbers) records (r ∷ []) ∙ ap (λ (l : List (Option (Slot L))). rows_from numbers records ++ record { key = numbers r.key; slots = l } ∷ []) (ap (map (option_map (slot_of numbers))) slots ∙ map-replicate_none (slot_of numbers) n)

  pub placed-added : (records records' : List (Record K L)) (r : Record K L) (n : ℕ) → records' ≡ records ++ r ∷ [] → r.slots.items ≡ replicate n None → ArePlaced numbers records → ArePlaced numbers records'
  placed-added records records' r n is slots placed i w q f at full =
      let keys = ap keys_of (rows-added records records' r n is slots) ∙ keys_of-append (rows_from numbers records) (numbers r.key) n in
      ⊎_elim
      (λ (was : IsAt records i q). subst (λ (l : List (List ℤ)). IsAt l f.place (numbers f.target.value)) (sym keys) (snoc_left (keys_of (rows_from numbers records)) f.place (numbers r.key) (numbers f.target.value) (placed i w q f was full)))
      (λ (e : (i ≡ length records) × (r ≡ q)). absurd (none_filled n w f (subst (λ (l : List (Option (Filled K L))). IsAt l w (Some f)) slots (subst (λ (x : Record K L). IsAt x.slots.items w (Some f)) (sym e.1) full))))
      (at_snoc records i r q (subst (λ (l : List (Record K L)). IsAt l i q) is at))

  module _ (records : List (Record K L)) (i : ℕ) (r s : Record K L) (p : Row L) (w : ℕ) (f : Filled K L) (at : IsAt (rows_from numbers records) i p) (here : IsAt (rows_from numbers records) i (row_of numbers r)) (key : s.key ≡ r.key) (slots : s.slots.items ≡ set r.slots.items w (Some f)) where
    pub rows-written : rows_from numbers (set records i s) ≡ set (rows_from numbers records) i (with_slot p w (slot_of numbers f))
    rows-written =
        map_set (row_of numbers) records i s
        ∙ ap (set (rows_from numbers records) i) (shown ∙ ap (λ (y : Row L). with_slot y w (slot_of numbers f)) (at_one (rows_from numbers records) i (row_of numbers r) p here at))
      where
        new_slots : map (option_map (slot_of numbers)) s.slots.items ≡ set (map (option_map (slot_of numbers)) r.slots.items) w (Some (slot_of numbers f))
        new_slots = ap (map (option_map (slot_of numbers))) slots ∙ map_set (option_map (slot_of numbers)) r.slots.items w (Some f)

        shown : row_of numbers s ≡ with_slot (row_of numbers r) w (slot_of numbers f)
        shown = λ j. record { key = numbers (key j); slots = new_slots j }

    pub keys-written : keys_of (rows_from numbers (set records i s)) ≡ keys_of (rows_from numbers records)
    keys-written = ap keys_of rows-written ∙ keys_of-set (rows_from numbers records) i w p (slot_of numbers f) at

    pub placed-written : IsAt records i r → IsAt (keys_of (rows_from numbers records)) f.place (numbers f.target.value) → ArePlaced numbers records → ArePlaced numbers (set records i s)
    placed-written stands there placed j v q g there' full = subst (λ (l : List (List ℤ)). IsAt l g.place (numbers g.target.value)) (sym keys-written) (⊎_elim
        (λ (e : (j ≡ i) × (s ≡ q)). ⊎_elim
        (λ (m : (v ≡ w) × (Some f ≡ Some g)). let same : f ≡ g = cc in subst (λ (x : Filled K L). IsAt (keys_of (rows_from numbers records)) x.place (numbers x.target.value)) same there)
        (λ (m : (v ≢ w) × IsAt r.slots.items v (Some g)). placed i v r g stands m.1)
        (at_set r.slots.items w v (Some f) (Some g) (subst (λ (l : List (Option (Filled K L))). IsAt l v (Some g)) slots (subst (λ (x : Record K L). IsAt x.slots.items v (Some g)) (sym e.1) full))))
        (λ (e : (j ≢ i) × IsAt records j q). placed j v q g e.1 full)
        (at_set records i j s q there'))
