-- How many slots of a book are empty, and how large that can be.
use Rattle.std.proofs.Common.{◌≡◌, ℕ, zero, suc, ◌+◌, ◌*◌, ◌≤◌, List, [], ◌∷◌, ◌++◌, length, set, None, ap, arith, refl}
use Rattle.std.specs.Prelude.{ℤ}
use mathlib.Core.Logic.{∥∥₁_elim}
use Rattle.std.specs.Coded.{le_prop}
use Rattle.terrain.specs.Places.{IsAt}
use Rattle.explore_core.specs.Books.{Slot, Row, IsSound, empty_row, empties, out}
use Rattle.explore_core.specs.Events.{with_slot}
use Rattle.explore_core.proofs.EmptySlots.{empties-set, empties-replicate, empties_few}

module _ {L : Type 0} where
  -- one slot less is empty once one was filled
  pub out-set : (rows : List (Row L)) (i : ℕ) (r : Row L) (w : ℕ) (s : Slot L) → IsAt rows i r → IsAt r.slots w None → out (set rows i (with_slot r w s)) + 1 ≡ out rows
  out-set [] i r w s at empty = cc
  out-set (x ∷ rows) zero r w s at empty =
      let e : x ≡ r = cc in
      let h = empties-set r.slots w s empty in
      let k = ap (λ (y : Row L). empties y.slots) e in
      omega arith
  out-set (x ∷ rows) (suc i) r w s at empty = let h = out-set rows i r w s at empty in omega arith

  pub out-append : (rows : List (Row L)) (k : List ℤ) (n : ℕ) → out (rows ++ empty_row k n ∷ []) ≡ out rows + n
  out-append [] k n = let e = empties-replicate (Slot L) n in omega arith
  out-append (r ∷ rows) k n = let h = out-append rows k n in omega arith

  few_each : (rows : List (Row L)) → ((i : ℕ) (r : Row L) → IsAt rows i r → length r.slots ≤ 65536) → out rows ≤ 65536 * length rows
  few_each [] each = omega arith
  few_each (r ∷ rows) each = let h = few_each rows (λ i q at. each (suc i) q at) in let k = each 0 r refl in let e = empties_few r.slots in omega arith

  pub out_few : (Walls : List ℤ → ℕ → Type 0) (Leads : List ℤ → ℕ → List ℤ → L → Type 0) (root : List ℤ) (rows : List (Row L)) → ((k : List ℤ) (n : ℕ) → Walls k n → n ≤ 65536) → ∥ IsSound Walls Leads root rows ∥₁ → out rows ≤ 65536 * length rows
  out_few Walls Leads root rows few s = ∥∥₁_elim s le_prop (λ (x : IsSound Walls Leads root rows). few_each rows (λ i r at. few r.key (length r.slots) (x.walls i r at)))

pub out-root : (L : Type 0) (k : List ℤ) (n : ℕ) → out {L = L} (empty_row k n ∷ []) ≡ n
out-root L k n = let e = empties-replicate (Slot L) n in omega arith
