-- A ticket's slot in its shard, and what a fill of it keeps.
use Rattle.std.proofs.Common.{◌≡◌, ◌≢◌, ℕ, zero, suc, ◌+◌, ◌<◌, List, [], ◌∷◌, ◌++◌, length, set, Some, refl, sym, ap, ◌∙◌, subst, arith, ⊎_elim}
use Rattle.std.specs.Prelude.{ℤ, option_map}
use Rattle.std.proofs.lemmas.List.{length-set, length-map}
use Rattle.std.proofs.lemmas.Option.{slice_get-map}
use Rattle.std.specs.Coded.{Coded-set, coded_ℕ, le_prop}
use mathlib.Core.Logic.{∥∥₁_elim}
use mathlib.Core.List.{IsPrefix}
use Rattle.terrain.specs.Reach.{IsReached}
use Rattle.class_shards.specs.Entries.{IsSlot, SlotsBefore}
use Rattle.terrain.specs.Places.{IsAt}
use Rattle.explore_core.specs.Books.{Row, Slot, keys_of}
use Rattle.explore_core.specs.Events.{with_slot}
use Rattle.class_shards.specs.Rows.{before}
use Rattle.class_shards.specs.Agreement.{IsShard}
use Rattle.terrain.proofs.CallerLemmas.{at_set, at_one, at_within, read}
use Rattle.class_shards.proofs.Indices.{before_more, before_is}

-- where a ticket's slot is
pub record Spot {L : Type 0} (rows : List (Row L)) (key : List ℤ) (place wall index : ℕ) : Type 0 where
  pub row : Row L
  pub at : IsAt rows place row
  pub is : row.key ≡ key
  pub within : wall < length row.slots
  pub index_is : index ≡ before rows place + wall

front_at : {A : Type 0} (xs ys : List A) (i : ℕ) (x : A) → IsAt xs i x → IsAt (xs ++ ys) i x
front_at [] ys i x e = cc
front_at (z ∷ xs) ys zero x e = e
front_at (z ∷ xs) ys (suc i) x e = front_at xs ys i x e

module _ {L : Type 0} (Walls : List ℤ → ℕ → Type 0) (Leads : List ℤ → ℕ → List ℤ → L → Type 0) (shard_of : List ℤ → ℕ) (root : List ℤ) (number : ℕ) (rows : List (Row L)) where
  pub spot_of : ((k : List ℤ) (n m : ℕ) → Walls k n → Walls k m → n ≡ m) → ∥ IsShard Walls Leads shard_of root number rows ∥₁ → (list : List (List ℤ)) (key : List ℤ) (place wall index : ℕ) → IsPrefix list (keys_of rows) → IsAt list place key → ∥ IsSlot Walls key list place wall index ∥₁ → Spot rows key place wall index
  spot_of one sound list key place wall index prefix entry slot =
      let there : IsAt (keys_of rows) place key = subst (λ (l : List (List ℤ)). IsAt l place key) prefix.1 (front_at list prefix.0 place key entry) in
      let r = read rows place (let h = at_within (keys_of rows) place key there in let l = length-map rows (λ (s : Row L). s.key) in omega arith) in
      let is : r.0.key ≡ key = at_one (keys_of rows) place r.0.key key (slice_get-map (λ (s : Row L). s.key) rows place ∙ ap (option_map (λ (s : Row L). s.key)) r.1) there in
      record {
        row = r.0;
        at = r.1;
        is = is;
        within = ∥∥₁_elim sound le_prop (λ (f : IsShard Walls Leads shard_of root number rows). ∥∥₁_elim slot le_prop (λ (s : IsSlot Walls key list place wall index).
            let n = one key s.walls (length r.0.slots) s.has (subst (λ (k : List ℤ). Walls k (length r.0.slots)) is (f.walls place r.0 r.1)) in subst (λ (m : ℕ). wall < m) n s.within));
        index_is = ∥∥₁_elim sound (Coded-set coded_ℕ _ _) (λ (f : IsShard Walls Leads shard_of root number rows). ∥∥₁_elim slot (Coded-set coded_ℕ _ _) (λ (s : IsSlot Walls key list place wall index).
            let sum = subst (λ (l : List (List ℤ)). SlotsBefore Walls l place s.before) prefix.1 (before_more Walls list prefix.0 place s.before s.sum) in
            s.is ∙ ap (λ (m : ℕ). m + wall) (before_is Walls one rows f.walls place s.before sum)));
      }

  -- the sound after a fill
  pub filled_on : (place : ℕ) (s : Row L) (wall : ℕ) (f : Slot L) → IsAt rows place s → Leads s.key wall f.target f.link → IsShard Walls Leads shard_of root number rows → IsShard Walls Leads shard_of root number (set rows place (with_slot s wall f))
  filled_on place s wall f at leads x = record {
    belong = λ i t e. let b = back i t e in subst (λ (k : List ℤ). shard_of k ≡ number) b.2 (x.belong i b.0 b.1);
    apart = λ i j t u e e' same. let b = back i t e in let d = back j u e' in x.apart i j b.0 d.0 b.1 d.1 (b.2 ∙ same ∙ sym d.2);
    reached = λ i t e. let b = back i t e in subst (IsReached Walls Leads root) b.2 (x.reached i b.0 b.1);
    walls = λ i t e. ⊎_elim
        (λ (h : (i ≡ place) × (with_slot s wall f ≡ t)). subst (λ (y : Row L). Walls y.key (length y.slots)) h.1 (subst (Walls s.key) (sym (length-set s.slots wall (Some f))) (x.walls place s at)))
        (λ (h : (i ≢ place) × IsAt rows i t). x.walls i t h.1)
        (at_set rows place i (with_slot s wall f) t e);
    leads = λ i w t g e full. ⊎_elim
        (λ (h : (i ≡ place) × (with_slot s wall f ≡ t)). subst (λ (y : Row L). Leads y.key w g.target g.link) h.1 (⊎_elim
        (λ (m : (w ≡ wall) × (Some f ≡ Some g)). let same : f ≡ g = cc in subst (λ (y : ℕ × Slot L). Leads s.key y.0 y.1.target y.1.link) (λ j. (sym m.0 j, same j)) leads)
        (λ (m : (w ≢ wall) × IsAt s.slots w (Some g)). x.leads place w s g at m.1)
        (at_set s.slots wall w (Some f) (Some g) (subst (λ (y : Row L). IsAt y.slots w (Some g)) (sym h.1) full))))
        (λ (h : (i ≢ place) × IsAt rows i t). x.leads i w t g h.1 full)
        (at_set rows place i (with_slot s wall f) t e);
  }
    where
      back : (i : ℕ) (t : Row L) → IsAt (set rows place (with_slot s wall f)) i t → (z : Row L) × IsAt rows i z × (z.key ≡ t.key)
      back i t e = ⊎_elim (λ (h : (i ≡ place) × (with_slot s wall f ≡ t)). (s, subst (λ (j : ℕ). IsAt rows j s) (sym h.0) at, ap (λ (y : Row L). y.key) h.1)) (λ (h : (i ≢ place) × IsAt rows i t). (t, h.1, refl)) (at_set rows place i (with_slot s wall f) t e)

pub keys_set : {L : Type 0} (rows : List (Row L)) (place : ℕ) (s : Row L) (wall : ℕ) (f : Slot L) → IsAt rows place s → keys_of (set rows place (with_slot s wall f)) ≡ keys_of rows
keys_set [] place s wall f at = refl
keys_set (x ∷ rows) zero s wall f at = let q : x ≡ s = cc in ap (λ (k : List ℤ). k ∷ keys_of rows) (ap (λ (y : Row _). y.key) (sym q))
keys_set (x ∷ rows) (suc i) s wall f at = ap (λ (l : List (List ℤ)). x.key ∷ l) (keys_set rows i s wall f at)
