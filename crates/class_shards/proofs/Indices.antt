-- The index of a slot's entry.
use Rattle.std.proofs.Common.{◌≡◌, ℕ, zero, suc, ◌+◌, ◌<◌, List, [], ◌∷◌, ◌++◌, length, set, Some, refl, ap, arith}
use Rattle.std.specs.Prelude.{ℤ}
use Rattle.std.proofs.lemmas.List.{length-set}
use Rattle.class_shards.specs.Entries.{SlotsBefore}
use Rattle.terrain.specs.Places.{IsAt}
use Rattle.explore_core.specs.Books.{Row, Slot, keys_of}
use Rattle.explore_core.specs.Events.{with_slot}
use Rattle.class_shards.specs.Rows.{before, total}

-- more keys behind change nothing
pub before_more : (Walls : List ℤ → ℕ → Type 0) (xs ys : List (List ℤ)) (i m : ℕ) → SlotsBefore Walls xs i m → SlotsBefore Walls (xs ++ ys) i m
before_more Walls [] ys zero m h = h
before_more Walls [] ys (suc i) m h = absurd h
before_more Walls (x ∷ xs) ys zero m h = h
before_more Walls (x ∷ xs) ys (suc i) m h = (h.0, h.1, h.2, before_more Walls xs ys i h.1 h.3, h.4)

module _ {L : Type 0} where
  -- what a receipt says of the slots before its place is what the shard has before it
  pub before_is : (Walls : List ℤ → ℕ → Type 0) → ((k : List ℤ) (n m : ℕ) → Walls k n → Walls k m → n ≡ m) → (rows : List (Row L)) → ((i : ℕ) (s : Row L) → IsAt rows i s → Walls s.key (length s.slots)) → (i m : ℕ) → SlotsBefore Walls (keys_of rows) i m → m ≡ before rows i
  before_is Walls one [] each zero m h = h
  before_is Walls one [] each (suc i) m h = absurd h
  before_is Walls one (s ∷ rows) each zero m h = h
  before_is Walls one (s ∷ rows) each (suc i) m h =
      let rest = before_is Walls one rows (λ j t at. each (suc j) t at) i h.1 h.3 in
      let here = one s.key h.0 (length s.slots) h.2 (each 0 s refl) in
      let sum = h.4 in
      omega arith

  pub spot_within : (rows : List (Row L)) (i w : ℕ) (s : Row L) → IsAt rows i s → w < length s.slots → before rows i + w < total rows
  spot_within [] i w s at h = cc
  spot_within (t ∷ rows) zero w s at h = let e : t ≡ s = cc in let k = ap (λ (x : Row L). length x.slots) e in omega arith
  spot_within (t ∷ rows) (suc i) w s at h = let k = spot_within rows i w s at h in omega arith

  -- two slots with one index are one slot
  pub spot_once : (rows : List (Row L)) (i j w v : ℕ) (s t : Row L) → IsAt rows i s → IsAt rows j t → w < length s.slots → v < length t.slots → before rows i + w ≡ before rows j + v → (i ≡ j) × (w ≡ v)
  spot_once [] i j w v s t at at' h k e = cc
  spot_once (x ∷ rows) zero zero w v s t at at' h k e = (refl, omega arith)
  spot_once (x ∷ rows) zero (suc j) w v s t at at' h k e = let q : x ≡ s = cc in let n = ap (λ (y : Row L). length y.slots) q in absurd (omega arith)
  spot_once (x ∷ rows) (suc i) zero w v s t at at' h k e = let q : x ≡ t = cc in let n = ap (λ (y : Row L). length y.slots) q in absurd (omega arith)
  spot_once (x ∷ rows) (suc i) (suc j) w v s t at at' h k e = let r = spot_once rows i j w v s t at at' h k (omega arith) in (ap suc r.0, r.1)

  -- filling a slot moves no index
  pub before_set : (rows : List (Row L)) (at : ℕ) (s : Row L) (w : ℕ) (f : Slot L) (i : ℕ) → IsAt rows at s → before (set rows at (with_slot s w f)) i ≡ before rows i
  before_set [] at s w f i h = refl
  before_set (x ∷ rows) zero s w f zero h = refl
  before_set (x ∷ rows) zero s w f (suc i) h = let q : x ≡ s = cc in let n = ap (λ (y : Row L). length y.slots) q in omega (arith, length-set s.slots w (Some f))
  before_set (x ∷ rows) (suc at) s w f zero h = refl
  before_set (x ∷ rows) (suc at) s w f (suc i) h = let r = before_set rows at s w f i h in omega arith

  pub total_set : (rows : List (Row L)) (at : ℕ) (s : Row L) (w : ℕ) (f : Slot L) → IsAt rows at s → total (set rows at (with_slot s w f)) ≡ total rows
  total_set [] at s w f h = refl
  total_set (x ∷ rows) zero s w f h = let q : x ≡ s = cc in let n = ap (λ (y : Row L). length y.slots) q in omega (arith, length-set s.slots w (Some f))
  total_set (x ∷ rows) (suc at) s w f h = let r = total_set rows at s w f h in omega arith
