-- A new key at the end of a shard.
use Rattle.std.proofs.Common.{◌≡◌, ℕ, zero, suc, ◌+◌, ◌<◌, List, [], ◌∷◌, ◌++◌, length, Some, None, Option, replicate, true, refl, sym, ap, ◌∙◌, subst, arith, ⊎_elim}
use Rattle.std.specs.Prelude.{ℤ, is_some}
use Rattle.std.proofs.lemmas.List.{length-replicate}
use Rattle.terrain.specs.Reach.{IsReached}
use Rattle.walls_out.specs.declared.view.View.{View}
use Rattle.walls_out.specs.declared.entry.Entry.{Entry}
use Rattle.walls_out.specs.Counting.{has_done, total as sum, one_wall}
use Rattle.walls_out.specs.Told.{HasDoneAll}
use Rattle.class_shards.specs.Entries.{SlotsBefore, IsSlot}
use Rattle.terrain.specs.Places.{IsAt}
use Rattle.explore_core.specs.Books.{Row, Slot, keys_of, empty_row}
use Rattle.class_shards.specs.Rows.{before, total}
use Rattle.class_shards.specs.Agreement.{Agree, IsShard, AreFilled}
use Rattle.terrain.proofs.CallerLemmas.{at_snoc, at_within, read}
use Rattle.class_shards.proofs.Indices.{spot_within}

module _ {L : Type 0} where
  before_front : (rows : List (Row L)) (s : Row L) (i : ℕ) → i < length rows → before (rows ++ s ∷ []) i ≡ before rows i
  before_front [] s i h = absurd (omega arith)
  before_front (x ∷ rows) s zero h = refl
  before_front (x ∷ rows) s (suc i) h = ap (λ (n : ℕ). length x.slots + n) (before_front rows s i (omega arith))

  pub before_end : (rows : List (Row L)) (s : Row L) → before (rows ++ s ∷ []) (length rows) ≡ total rows
  before_end [] s = refl
  before_end (x ∷ rows) s = ap (λ (n : ℕ). length x.slots + n) (before_end rows s)

  pub total_more : (rows : List (Row L)) (k : List ℤ) (n : ℕ) → total (rows ++ empty_row k n ∷ []) ≡ total rows + n
  total_more [] k n = omega (arith, length-replicate {A = Option (Slot L)} n None)
  total_more (x ∷ rows) k n = let h = total_more rows k n in omega arith

  none_there : (n w : ℕ) (o : Option (Slot L)) → IsAt (replicate {A = Option (Slot L)} n None) w o → o ≡ None
  none_there zero w o e = cc
  none_there (suc n) zero o e = cc
  none_there (suc n) (suc w) o e = none_there n w o e

  -- a keeper that has done what it had, beside one key more
  pub agree_new : (number : ℕ) (v u : View) (rows : List (Row L)) (k : List ℤ) (n : ℕ) → Agree number v rows → u.done ≡ v.done → Agree number u (rows ++ empty_row k n ∷ [])
  agree_new number v u rows k n a same = record {
    filled = λ i w s o at slot done. ⊎_elim
        (λ (was : IsAt rows i s). a.filled i w s o was slot (subst (λ (j : ℕ). 0 < has_done number (j + w) v) (before_front rows (empty_row k n) i (at_within rows i s was)) (old (before (rows ++ empty_row k n ∷ []) i + w) done)))
        (λ (e : (i ≡ length rows) × (empty_row k n ≡ s)). absurd (let b = a.below (before (rows ++ empty_row k n ∷ []) i + w) (old (before (rows ++ empty_row k n ∷ []) i + w) done) in let h : before (rows ++ empty_row k n ∷ []) i ≡ total rows = subst (λ (j : ℕ). before (rows ++ empty_row k n ∷ []) j ≡ total rows) (sym e.0) (before_end rows (empty_row k n)) in omega arith))
        (at_snoc rows i (empty_row k n) s at);
    done = λ i w s o at slot full. ⊎_elim
        (λ (was : IsAt rows i s). new (before (rows ++ empty_row k n ∷ []) i + w) (subst (λ (j : ℕ). 0 < has_done number (j + w) v) (sym (before_front rows (empty_row k n) i (at_within rows i s was))) (a.done i w s o was slot full)))
        (λ (e : (i ≡ length rows) × (empty_row k n ≡ s)). absurd (clash o (none_there n w o (subst (λ (y : Row L). IsAt y.slots w o) (sym e.1) slot)) full))
        (at_snoc rows i (empty_row k n) s at);
    below = λ i done. let b = a.below i (old i done) in let t = total_more rows k n in omega arith;
  }
    where
      old : (i : ℕ) → 0 < has_done number i u → 0 < has_done number i v
      old i h = subst (λ (d : List Entry). 0 < sum (one_wall number i) d) same h

      new : (i : ℕ) → 0 < has_done number i v → 0 < has_done number i u
      new i h = subst (λ (d : List Entry). 0 < sum (one_wall number i) d) (sym same) h

      clash : (o : Option (Slot L)) → o ≡ None → is_some o ≡ true → ⊥
      clash None e h = cc
      clash (Some x) e h = cc

  -- what the receipts of a new key's tickets say of its slots
  pub before_holds : (Walls : List ℤ → ℕ → Type 0) (rows : List (Row L)) → ((i : ℕ) (s : Row L) → IsAt rows i s → Walls s.key (length s.slots)) → SlotsBefore Walls (keys_of rows) (length rows) (total rows)
  before_holds Walls [] each = refl
  before_holds Walls (s ∷ rows) each = (length s.slots, total rows, each 0 s refl, before_holds Walls rows (λ i t at. each (suc i) t at), refl)

  pub slot_of_new : (Walls : List ℤ → ℕ → Type 0) (rows : List (Row L)) (k : List ℤ) (n wall : ℕ) → ((i : ℕ) (s : Row L) → IsAt rows i s → Walls s.key (length s.slots)) → Walls k n → wall < n → IsSlot Walls k (keys_of rows ++ k ∷ []) (length rows) wall (total rows + wall)
  slot_of_new Walls rows k n wall each has h = record { walls = n; has = has; within = h; before = total rows; sum = more (keys_of rows) (length rows) (total rows) (before_holds Walls rows each); is = refl }
    where
      more : (xs : List (List ℤ)) (i m : ℕ) → SlotsBefore Walls xs i m → SlotsBefore Walls (xs ++ k ∷ []) i m
      more [] zero m b = b
      more [] (suc i) m b = absurd b
      more (x ∷ xs) zero m b = b
      more (x ∷ xs) (suc i) m b = (b.0, b.1, b.2, more xs i b.1 b.3, b.4)

  pub filing_new : (Walls : List ℤ → ℕ → Type 0) (Leads : List ℤ → ℕ → List ℤ → L → Type 0) (shard_of : List ℤ → ℕ) (root : List ℤ) (number : ℕ) (rows : List (Row L)) (k : List ℤ) (n : ℕ) → IsShard Walls Leads shard_of root number rows → shard_of k ≡ number → IsReached Walls Leads root k → Walls k n → ((i : ℕ) (s : Row L) → IsAt rows i s → s.key ≡ k → ⊥) → IsShard Walls Leads shard_of root number (rows ++ empty_row k n ∷ [])
  filing_new Walls Leads shard_of root number rows k n f belongs reached has fresh = record {
    belong = λ i s at. ⊎_elim (λ (was : IsAt rows i s). f.belong i s was) (λ (e : (i ≡ length rows) × (empty_row k n ≡ s)). subst (λ (y : Row L). shard_of y.key ≡ number) e.1 belongs) (at_snoc rows i (empty_row k n) s at);
    apart = λ i j s t at at' same. ⊎_elim
        (λ (was : IsAt rows i s). ⊎_elim (λ (was' : IsAt rows j t). f.apart i j s t was was' same) (λ (e : (j ≡ length rows) × (empty_row k n ≡ t)). absurd (fresh i s was (same ∙ sym (ap (λ (y : Row L). y.key) e.1)))) (at_snoc rows j (empty_row k n) t at'))
        (λ (e : (i ≡ length rows) × (empty_row k n ≡ s)). ⊎_elim (λ (was' : IsAt rows j t). absurd (fresh j t was' (sym same ∙ sym (ap (λ (y : Row L). y.key) e.1)))) (λ (e' : (j ≡ length rows) × (empty_row k n ≡ t)). e.0 ∙ sym e'.0) (at_snoc rows j (empty_row k n) t at'))
        (at_snoc rows i (empty_row k n) s at);
    reached = λ i s at. ⊎_elim (λ (was : IsAt rows i s). f.reached i s was) (λ (e : (i ≡ length rows) × (empty_row k n ≡ s)). subst (λ (y : Row L). IsReached Walls Leads root y.key) e.1 reached) (at_snoc rows i (empty_row k n) s at);
    walls = λ i s at. ⊎_elim (λ (was : IsAt rows i s). f.walls i s was) (λ (e : (i ≡ length rows) × (empty_row k n ≡ s)). subst (λ (y : Row L). Walls y.key (length y.slots)) e.1 (subst (Walls k) (sym (length-replicate n None)) has)) (at_snoc rows i (empty_row k n) s at);
    leads = λ i w s g at full. ⊎_elim
        (λ (was : IsAt rows i s). f.leads i w s g was full)
        (λ (e : (i ≡ length rows) × (empty_row k n ≡ s)). absurd (clash g (none_there n w (Some g) (subst (λ (y : Row L). IsAt y.slots w (Some g)) (sym e.1) full))))
        (at_snoc rows i (empty_row k n) s at);
  }
    where
      clash : (g : Slot L) → Some g ≡ None → ⊥
      clash g e = cc

pub all_filled : {L : Type 0} (number : ℕ) (v : View) (rows : List (Row L)) → v.keeper ≡ Some number → v.made ≡ total rows → Agree number v rows → HasDoneAll v → AreFilled rows
all_filled number v rows keeps made a done i w s at h =
    let r = read s.slots w h in
    let d = done number (before rows i + w) keeps (let k = spot_within rows i w s at h in omega arith) in
    some (r.0) (a.filled i w s r.0 at r.1 d) r.1
  where
    some : (o : Option (Slot _)) → is_some o ≡ true → IsAt s.slots w o → (f : Slot _) × IsAt s.slots w (Some f)
    some None e k = cc
    some (Some f) e k = (f, k)
