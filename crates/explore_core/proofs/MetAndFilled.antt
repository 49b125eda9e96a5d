-- A slot is met and filled.
use Rattle.std.proofs.Common.{◌≡◌, ℕ, List, set, None, refl, ap, ◌∙◌, inr}
use Rattle.std.specs.Prelude.{ℤ, Result, Err}
use Rattle.terrain.specs.Places.{IsAt}
use Rattle.terrain.proofs.CallerLemmas.{at_one}
use Rattle.explore_core.specs.Books.{Row, keys_of}
use Rattle.explore_core.specs.Events.{Adds, FillsSlot, with_slot}
use Rattle.explore_core.proofs.CallerLemmas.{added_at}
use Rattle.explore_core.proofs.Closed.{has_at_place}

module _ {L : Type 0} (Walls : List ℤ → ℕ → Type 0) (Leads : List ℤ → ℕ → List ℤ → L → Type 0) (before met after : List (Row L)) (place w to : ℕ) (r q : Row L) (d e : List ℤ) (g : L) (at : IsAt before place r) (empty : IsAt r.slots w None) (leads : Leads r.key w d g) (added : Adds Walls d before met) (there : IsAt (keys_of met) to d) (at' : IsAt met place q) (there' : IsAt (keys_of met) to e) (is : after ≡ set met place (with_slot q w (record { target = e; link = g }))) where
  -- the two events of an empty slot
  pub met_and_filled : FillsSlot Walls Leads r.key w before after
  met_and_filled = inr (met, (record { from = record { place = place; row = r; at = at; is = refl }; empty = empty; target = d; link = g; leads = leads }, added), (record { from = record { place = place; row = r; at = stays; is = refl }; empty = empty; target = d; link = g; leads = leads }, has_at_place met to d there, is ∙ ap (λ (x : Row L × List ℤ). set met place (with_slot x.0 w (record { target = x.1; link = g }))) (λ i. (row i, target i))))
    where
      stays : IsAt met place r
      stays = added_at Walls before met d added place r at

      row : q ≡ r
      row = at_one met place q r at' stays

      target : e ≡ d
      target = at_one (keys_of met) to e d there' there

pub err_is : {X E : Type 0} (r : Result X E) (x y z : E) → r ≡ Err x → x ≡ y → r ≡ Err z → y ≡ z
err_is r x y z a b c = cc
