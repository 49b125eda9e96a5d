-- A key that a shard meets.
use Rattle.std.proofs.Common.{◌≡◌, ◌⊎◌, ℕ, suc, ◌+◌, ◌-◌, ◌*◌, ◌<◌, ◌≤◌, List, [], ◌∷◌, ◌++◌, length, Some, refl, sym, ap, ◌∙◌, subst, arith, ⊎_elim, inl, inr, Result, Ok, Err, IfOk, OnOk}
use Rattle.std.specs.Prelude.{ℤ, slice_index_or, option_map}
use Rattle.std.proofs.lemmas.List.{length-map}
use Rattle.std.proofs.lemmas.Option.{slice_get-map}
use Rattle.std.specs.Coded.{le_prop, Coded-set, coded_ℕ}
use mathlib.Core.Logic.{∥∥₁_elim, ∥∥₁_map, ∥∥₁_prop}
use Rattle.walls_out.specs.declared.entry.Entry.{Entry}
use Rattle.walls_out.specs.declared.view.View.{View}
use Rattle.walls_out.specs.Views.{fresh, joined, raised}
use Rattle.class_shards.specs.Entries.{IsSlot}
use Rattle.terrain.specs.Places.{IsAt}
use Rattle.explore_core.specs.Books.{Row, keys_of, empty_row}
use Rattle.class_shards.specs.Rows.{total}
use Rattle.class_shards.specs.Agreement.{IsShard}
use Rattle.terrain.specs.Reach.{IsReached, AreReachedOnce}
use Rattle.explore_core.specs.Books.{HasKey}
use Rattle.explore_core.specs.Events.{Adds}
use Rattle.terrain.proofs.CallerLemmas.{own_reached, at_map, map_at, at_snoc, at_one, read, at_within}
use Rattle.class_shards.proofs.Agrees.{owes_one}
use Rattle.class_shards.proofs.NewKey.{slot_of_new, filing_new}

-- no row has the key
abbrev pub IsNew : {L : Type 0} → List (Row L) → List ℤ → Type 0
IsNew rows k = (i : ℕ) → IsAt (keys_of rows) i k → ⊥

module _ {L : Type 0} (Own : List ℤ → Type 0) (Walls : List ℤ → ℕ → Type 0) (Leads : List ℤ → ℕ → List ℤ → L → Type 0) (once : (k : List ℤ) (a b : Own k) → a ≡ b) (further : (k : List ℤ) (n w : ℕ) (d : List ℤ) (g : L) → Own k → Walls k n → w < n → Leads k w d g → Own d) (root : List ℤ) where
  -- reached keys are own keys
  pub own_if_reached : (k : List ℤ) → ∥ Own root ∥₁ → IsReached Walls Leads root k → ∥ Own k ∥₁
  own_if_reached k o r = ∥∥₁_map o (λ (x : Own root). own_reached Walls Leads root Own once further x k r)

pub end_read : (xs : List (List ℤ)) (k : List ℤ) → slice_index_or (xs ++ k ∷ []) (length xs) [] ≡ k
end_read [] k = refl
end_read (x ∷ xs) k = end_read xs k

module _ {L : Type 0} where
  pub keys_more : (rows : List (Row L)) (k : List ℤ) (n : ℕ) → keys_of (rows ++ empty_row k n ∷ []) ≡ keys_of rows ++ k ∷ []
  keys_more [] k n = refl
  keys_more (s ∷ rows) k n = ap (λ (l : List (List ℤ)). s.key ∷ l) (keys_more rows k n)

  few_each : (rows : List (Row L)) → ((i : ℕ) (s : Row L) → IsAt rows i s → length s.slots ≤ 65536) → total rows ≤ 65536 * length rows
  few_each [] each = omega arith
  few_each (s ∷ rows) each = let h = few_each rows (λ i t at. each (suc i) t at) in let k = each 0 s refl in omega arith

  module _ (Walls : List ℤ → ℕ → Type 0) (Leads : List ℤ → ℕ → List ℤ → L → Type 0) (shard_of : List ℤ → ℕ) (root : List ℤ) (number : ℕ) (rows : List (Row L)) (sound : ∥ IsShard Walls Leads shard_of root number rows ∥₁) where
    -- a shard's slots are few
    pub total_few : ((k : List ℤ) (n : ℕ) → Walls k n → n ≤ 65536) → total rows ≤ 65536 * length rows
    total_few few = ∥∥₁_elim sound le_prop (λ (x : IsShard Walls Leads shard_of root number rows). few_each rows (λ i s at. few s.key (length s.slots) (x.walls i s at)))

    -- the slots of a key at the end
    pub slots_new : (k : List ℤ) (n w : ℕ) → Walls k n → w < n → ∥ IsSlot Walls k (keys_of rows ++ k ∷ []) (length (keys_of rows)) w (total rows + w) ∥₁
    slots_new k n w has h = ∥∥₁_map sound (λ (x : IsShard Walls Leads shard_of root number rows). subst (λ (p : ℕ). IsSlot Walls k (keys_of rows ++ k ∷ []) p w (total rows + w)) (sym (length-map rows (λ (s : Row L). s.key))) (slot_of_new Walls rows k n w x.walls has h))

    key_there : (i : ℕ) (s : Row L) → IsAt rows i s → IsAt (keys_of rows) i s.key
    key_there i s at = slice_get-map (λ (s : Row L). s.key) rows i ∙ ap (option_map (λ (s : Row L). s.key)) at

    pub filing_more : (k : List ℤ) (n : ℕ) → shard_of k ≡ number → IsReached Walls Leads root k → Walls k n → IsNew rows k → ∥ IsShard Walls Leads shard_of root number (rows ++ empty_row k n ∷ []) ∥₁
    filing_more k n belongs reached has fresh = ∥∥₁_map sound (λ (x : IsShard Walls Leads shard_of root number rows). filing_new Walls Leads shard_of root number rows k n x belongs reached has (λ i s at is. fresh i (subst (λ (y : List ℤ). IsAt (keys_of rows) i y) is (key_there i s at))))

-- what a keeper owes once it has taken a seat's one entry in and raised
pub raised_owes : (v u j r : View) (e : Entry) (b n w : ℕ) → v.owed ≡ [] → u.owed ≡ e ∷ [] → v.keeper ≡ Some b → j ≡ joined v u → r ≡ raised w j → w ≡ n → r.owed ≡ e ∷ fresh (Some b) (r.made - n) n
raised_owes v u j r e b n w idle one keeps join raise len =
    let first : j.owed ≡ e ∷ [] = ap (λ (x : View). x.owed) join ∙ owes_one v u e idle one in
    let made = ap (λ (x : View). x.made) raise in
    let m : j.made ≡ r.made - n = omega arith in
    ap (λ (x : View). x.owed) raise ∙ ap (λ xs. xs ++ fresh j.keeper j.made w) first ∙ (λ i. e ∷ fresh ((ap (λ (x : View). x.keeper) join ∙ keeps) i) (m i) (len i))

-- numbered by their places, with one more at the end
pub order_more : {A : Type 0} (number : A → ℕ) (xs xs' : List A) (y : A) → xs' ≡ xs ++ y ∷ [] → number y ≡ length xs → ((i : ℕ) (x : A) → IsAt xs i x → number x ≡ i) → (i : ℕ) (x : A) → IsAt xs' i x → number x ≡ i
order_more {A} number xs xs' y is last each i x at = ⊎_elim (λ (was : IsAt xs i x). each i x was) (λ (e : (i ≡ length xs) × (y ≡ x)). ap number (sym e.1) ∙ last ∙ sym e.0) (at_snoc xs i y x (subst (λ (l : List A). IsAt l i x) is at))

-- a shard's keys are reached, each once
pub reached_once : {L : Type 0} (Walls : List ℤ → ℕ → Type 0) (Leads : List ℤ → ℕ → List ℤ → L → Type 0) (shard_of : List ℤ → ℕ) (root : List ℤ) (number : ℕ) (rows : List (Row L)) → ∥ IsShard Walls Leads shard_of root number rows ∥₁ → AreReachedOnce Walls Leads root (keys_of rows)
reached_once {L} Walls Leads shard_of root number rows sound = record {
  once = λ i j k at at'. let s = row_there i k at in let t = row_there j k at' in ∥∥₁_elim sound (Coded-set coded_ℕ _ _) (λ (x : IsShard Walls Leads shard_of root number rows). x.apart i j s.0 t.0 s.1 t.1 (s.2 ∙ sym t.2));
  reached = λ i k at. let s = row_there i k at in ∥∥₁_elim sound ∥∥₁_prop (λ (x : IsShard Walls Leads shard_of root number rows). subst (IsReached Walls Leads root) s.2 (x.reached i s.0 s.1));
}
  where
    row_there : (i : ℕ) (k : List ℤ) → IsAt (keys_of rows) i k → (s : Row L) × IsAt rows i s × (s.key ≡ k)
    row_there i k at =
        let r = read rows i (let h = at_within (keys_of rows) i k at in let l = length-map rows (λ (s : Row L). s.key) in omega arith) in
        (r.0, r.1, at_one (keys_of rows) i r.0.key k (slice_get-map (λ (s : Row L). s.key) rows i ∙ ap (option_map (λ (s : Row L). s.key)) r.1) at)

pub both_ok : {A E : Type 0} {P Q R : A → Type 0} (r : Result A E) → IfOk r P → IfOk r Q → ((x : A) → P x → Q x → R x) → IfOk r R
both_ok (Ok x) p q f = f x p q
both_ok (Err e) p q f = p

-- a key was there before a meet, or it wasn't
pub there_or_not : {L : Type 0} (Walls : List ℤ → ℕ → Type 0) (k : List ℤ) (before after : List (Row L)) → Adds Walls k before after → HasKey before k ⊎ (HasKey before k → ⊥)
there_or_not Walls k before after adds = ⊎_elim (λ (was : HasKey before k × (after ≡ before)). inl was.0) (λ (fresh : (HasKey before k → ⊥) × (n : ℕ) × Walls k n × (after ≡ before ++ empty_row k n ∷ [])). inr fresh.0) adds

-- what an Ok says in one case and what it says in the other
pub either_ok : {A E M H : Type 0} {P Q S R : A → Type 0} (r : Result A E) → (M → H ⊎ (H → ⊥)) → OnOk r M → IfOk r (λ x. H → P x) → IfOk r (λ x. (H → ⊥) → Q x) → IfOk r S → ((x : A) → P x ⊎ Q x → S x → R x) → IfOk r R
either_ok {A} {E} {M} {H} (Ok x) decides m p q s f = f x (⊎_elim (λ (h : H). inl (p h)) (λ (n : H → ⊥). inr (q n)) (decides m)) s
either_ok (Err e) decides m p q s f = m

module _ {L : Type 0} (rows : List (Row L)) (k : List ℤ) where
  -- a key that stands at a place is there
  pub has_at : (i : ℕ) → IsAt (keys_of rows) i k → HasKey rows k
  has_at i at = let r = map_at (λ (r : Row L). r.key) rows i k at in record { place = i; row = r.0; at = r.1; is = r.2 }

  -- a new key isn't there
  pub new_not_there : IsNew rows k → HasKey rows k → ⊥
  new_not_there fresh h = fresh h.place (subst (λ (y : List ℤ). IsAt (keys_of rows) h.place y) h.is (at_map (λ (r : Row L). r.key) rows h.place h.row h.at))

  pub not_there_new : (HasKey rows k → ⊥) → IsNew rows k
  not_there_new none i at = none (has_at i at)
