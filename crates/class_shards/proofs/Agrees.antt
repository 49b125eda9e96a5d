-- A fill keeps the rows and the entries in agreement, and its slot was empty.
use Rattle.std.proofs.Common.{◌≡◌, ◌≢◌, ℕ, ◌+◌, ◌<◌, ◌==◌, ◌&&◌, List, [], ◌∷◌, ◌++◌, length, set, Some, None, Option, refl, sym, ap, ◌∙◌, subst, arith, ⊎_elim}
use Rattle.std.specs.Prelude.{is_some}
use Rattle.std.proofs.lemmas.Bool.Decides.{nat_tests}
use mathlib.Core.Logic.{dite}
use native.Mathlib.Decide.{ℕ_discrete}
use Rattle.walls_out.specs.declared.entry.Entry.{Entry}
use Rattle.walls_out.specs.declared.entry.Entry.TheVariants.{Wall}
use Rattle.walls_out.specs.declared.view.View.{View}
use Rattle.walls_out.specs.Counting.{total as sum, one_if, one_wall, has_done}
use Rattle.walls_out.specs.Told.{WasOpen}
use Rattle.walls_out.specs.Views.{joined, lowered, last_of}
use Rattle.walls_out.proofs.CallerLemmas.{total-append}
use Rattle.terrain.specs.Places.{IsAt}
use Rattle.explore_core.specs.Books.{Row, Slot}
use Rattle.explore_core.specs.Events.{with_slot}
use Rattle.class_shards.specs.Rows.{before, total}
use Rattle.class_shards.specs.Agreement.{Agree}
use Rattle.terrain.proofs.CallerLemmas.{at_set, at_within}
use Rattle.class_shards.proofs.Indices.{spot_once, spot_within, before_set, total_set}

-- what the keeper owes one_if it took the ticket's seat in
pub owes_one : (v u : View) (e : Entry) → v.owed ≡ [] → u.owed ≡ e ∷ [] → (joined v u).owed ≡ e ∷ []
owes_one v u e idle one = ap (λ xs. xs ++ u.owed) idle ∙ one

done_after : (number i index : ℕ) (v u : View) → v.owed ≡ [] → u.owed ≡ Wall number index ∷ [] → has_done number i (lowered (joined v u)) ≡ has_done number i v + one_if ((number == number) && (index == i))
done_after number i index v u idle one = omega (arith, total-append (one_wall number i) v.done (last_of (v.owed ++ u.owed)), ap (λ xs. sum (one_wall number i) (last_of xs)) (owes_one v u (Wall number index) idle one))

one_here : (n i : ℕ) → one_if ((n == n) && (i == i)) ≡ 1
one_here n i = grind (arith, nat_tests)

one_else : (n i j : ℕ) → i ≢ j → one_if ((n == n) && (i == j)) ≡ 0
one_else n i j ne = grind (arith, nat_tests)

module _ {L : Type 0} (number : ℕ) (rows : List (Row L)) (v u : View) (idle : v.owed ≡ []) (place wall : ℕ) (s : Row L) (at : IsAt rows place s) (within : wall < length s.slots) (owes : u.owed ≡ Wall number (before rows place + wall) ∷ []) (a : Agree number v rows) where
  -- the slot of an entry that was open is empty
  pub was_empty : (o : Option (Slot L)) → v.keeper ≡ Some number → IsAt s.slots wall o → WasOpen (joined v u) → o ≡ None
  was_empty None keeps slot was = refl
  was_empty (Some f) keeps slot was =
      let told = was number (before rows place + wall) keeps (ap last_of (owes_one v u (Wall number (before rows place + wall)) idle owes)) in
      let done = a.done place wall s (Some f) at slot refl in
      absurd (omega (arith, told.1))

  -- and one_if it is filled, slots and entries agree again
  pub agrees : (f : Slot L) → Agree number (lowered (joined v u)) (set rows place (with_slot s wall f))
  agrees f = record {
    filled = λ i w t o there slot done. ⊎_elim
        (λ (h : (i ≡ place) × (with_slot s wall f ≡ t)). ⊎_elim
        (λ (m : (w ≡ wall) × (Some f ≡ o)). ap is_some (sym m.1))
        (λ (m : (w ≢ wall) × IsAt s.slots w o). a.filled place w s o at m.1 (not_it place w s at (at_within s.slots w o m.1) (λ e. m.0 e.1) (subst (λ (j : ℕ). 0 < has_done number (before (set rows place (with_slot s wall f)) j + w) (lowered (joined v u))) h.0 done)))
        (at_set s.slots wall w (Some f) o (subst (λ (y : Row L). IsAt y.slots w o) (sym h.1) slot)))
        (λ (h : (i ≢ place) × IsAt rows i t). a.filled i w t o h.1 slot (not_it i w t h.1 (at_within t.slots w o slot) (λ e. h.0 e.0) done))
        (at_set rows place i (with_slot s wall f) t there);
    done = λ i w t o there slot full. ⊎_elim
        (λ (h : (i ≡ place) × (with_slot s wall f ≡ t)). ⊎_elim
        (λ (m : (w ≡ wall) × (Some f ≡ o)). subst (λ (j : ℕ). 0 < has_done number (before (set rows place (with_slot s wall f)) j + w) (lowered (joined v u))) (sym h.0) (it w m.0))
        (λ (m : (w ≢ wall) × IsAt s.slots w o). subst (λ (j : ℕ). 0 < has_done number (before (set rows place (with_slot s wall f)) j + w) (lowered (joined v u))) (sym h.0) (still place w (a.done place w s o at m.1 full)))
        (at_set s.slots wall w (Some f) o (subst (λ (y : Row L). IsAt y.slots w o) (sym h.1) slot)))
        (λ (h : (i ≢ place) × IsAt rows i t). still i w (a.done i w t o h.1 slot full))
        (at_set rows place i (with_slot s wall f) t there);
    below = λ i done. subst (λ (n : ℕ). i < n) (sym (total_set rows place s wall f at)) (dite (ℕ_discrete (before rows place + wall) i)
        (λ (e : before rows place + wall ≡ i). subst (λ (n : ℕ). n < total rows) e (spot_within rows place wall s at within))
        (λ (ne : before rows place + wall ≢ i). a.below i (let after = done_after number i (before rows place + wall) v u idle owes in let none = one_else number (before rows place + wall) i ne in omega arith)));
  }
    where
      index : ℕ
      index = before rows place + wall

      -- an entry that isn't the ticket's was done before
      not_it : (i w : ℕ) (t : Row L) → IsAt rows i t → w < length t.slots → ((i ≡ place) × (w ≡ wall) → ⊥) → 0 < has_done number (before (set rows place (with_slot s wall f)) i + w) (lowered (joined v u)) → 0 < has_done number (before rows i + w) v
      not_it i w t there h other done =
          let same = before_set rows place s wall f i at in
          let after = done_after number (before rows i + w) (before rows place + wall) v u idle owes in
          let none = one_else number (before rows place + wall) (before rows i + w) (λ e. other (spot_once rows i place w wall t s there at h within (sym e))) in
          let d : 0 < has_done number (before rows i + w) (lowered (joined v u)) = subst (λ (j : ℕ). 0 < has_done number (j + w) (lowered (joined v u))) same done in
          omega arith

      still : (i w : ℕ) → 0 < has_done number (before rows i + w) v → 0 < has_done number (before (set rows place (with_slot s wall f)) i + w) (lowered (joined v u))
      still i w d =
          let after = done_after number (before rows i + w) (before rows place + wall) v u idle owes in
          let e : 0 < has_done number (before rows i + w) (lowered (joined v u)) = omega arith in
          subst (λ (j : ℕ). 0 < has_done number (j + w) (lowered (joined v u))) (sym (before_set rows place s wall f i at)) e

      it : (w : ℕ) → w ≡ wall → 0 < has_done number (before (set rows place (with_slot s wall f)) place + w) (lowered (joined v u))
      it w is =
          let after = done_after number (before rows place + wall) (before rows place + wall) v u idle owes in
          let one = one_here number (before rows place + wall) in
          let e : 0 < has_done number (before rows place + wall) (lowered (joined v u)) = omega arith in
          subst (λ (j : ℕ). 0 < has_done number j (lowered (joined v u))) (ap (λ (x : ℕ). before rows place + x) (sym is) ∙ ap (λ (x : ℕ). x + w) (sym (before_set rows place s wall f place at))) e
