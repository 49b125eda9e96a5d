-- Leads taken out of their slots, one by one.
use Rattle.std.proofs.Common.{◌≡◌, ◌≢◌, ℕ, ◌+◌, ◌<◌, ◌≤◌, List, [], ◌∷◌, ◌++◌, length, map, set, get_or, Option, Some, zero, suc, refl, sym, ap, ◌∙◌, subst, arith}
use Rattle.std.proofs.lemmas.Option.{get_or_from_slice_get, slice_get_read}
use Rattle.std.proofs.lemmas.List.{map-append, length-map}
use mathlib.Core.Logic.{dite}
use native.Mathlib.Decide.{ℕ_discrete}
use Rattle.terrain.specs.declared.graph.Lead.{Lead}
use Rattle.terrain.specs.Places.{IsAt}
use Rattle.terrain.proofs.CallerLemmas.{set_else, snoc_left, snoc_end, at_one, read}
use Rattle.explore_core.specs.declared.record.Filled.{Filled}
use Rattle.explore_core.specs.declared.record.Record.{Record}
use Rattle.explore_core.specs.Ranks.{AllFull, ranked}

module _ {K L : Type 0} (ranks : List ℕ) (all slots : List (Option (Filled K L))) (leads : List (Lead L)) (k : ℕ) (full : AllFull (length ranks) all) (within : k < length all) (len : length leads ≡ k) (kept : (w : ℕ) (o : Option (Filled K L)) → k ≤ w → IsAt all w o → IsAt slots w o) (each : (w : ℕ) (x : Filled K L) → w < k → IsAt all w (Some x) → IsAt leads w (ranked ranks x)) where
  -- what stands in the slot now
  pub stands : (o : Option (Filled K L)) → o ≡ get_or slots k o → (f : Filled K L) × IsAt all k (Some f) × (f.place < length ranks) × (o ≡ Some f)
  stands o is = let f = full k within in (f.0, f.1, f.2, is ∙ get_or_from_slice_get slots k (Some f.0) o (kept k (Some f.0) (omega arith) f.1))

  pub kept_on : (n : Option (Filled K L)) (w : ℕ) (o : Option (Filled K L)) → k + 1 ≤ w → IsAt all w o → IsAt (set slots k n) w o
  kept_on n w o h at = set_else slots k w n o (λ e. absurd (omega arith)) (kept w o (omega arith) at)

  pub each_on : (y : Filled K L) → IsAt all k (Some y) → (w : ℕ) (x : Filled K L) → w < k + 1 → IsAt all w (Some x) → IsAt (leads ++ ranked ranks y ∷ []) w (ranked ranks x)
  each_on y here w x h at = dite (ℕ_discrete w k)
      (λ (e : w ≡ k).
      let same : Some y ≡ Some x = at_one all k (Some y) (Some x) here (subst (λ (j : ℕ). IsAt all j (Some x)) e at) in
      let yx : y ≡ x = cc in
      subst (λ (j : ℕ). IsAt (leads ++ ranked ranks y ∷ []) j (ranked ranks x)) (len ∙ sym e) (subst (λ (z : Filled K L). IsAt (leads ++ ranked ranks y ∷ []) (length leads) (ranked ranks z)) yx (snoc_end leads (ranked ranks y))))
      (λ (ne : w ≢ k). snoc_left leads w (ranked ranks y) (ranked ranks x) (each w x (omega arith) at))

-- what stands at a place that nothing has touched
pub now_at : {A : Type 0} (all xs : List A) (k : ℕ) (x : A) → k < length all → length xs ≡ length all → ((i : ℕ) (r : A) → k ≤ i → IsAt all i r → IsAt xs i r) → x ≡ get_or xs k x → IsAt all k x
now_at all xs k x h len kept is =
    let r = read all k h in
    let e = slice_get_read xs (length xs) k x refl (omega arith) is in
    let same : r.0 ≡ x = at_one xs k r.0 x (kept k r.0 (omega arith) r.1) e in
    r.1 ∙ ap Some same

-- a record whose slots were taken out keeps its key
pub keys_kept : {K L : Type 0} (records : List (Record K L)) (k : ℕ) (r s : Record K L) → IsAt records k r → s.key ≡ r.key → map (λ (x : Record K L). x.key) (set records k s) ≡ map (λ (x : Record K L). x.key) records
keys_kept [] k r s at e = refl
keys_kept (x ∷ records) zero r s at e = let q : x ≡ r = cc in ap (λ y. y ∷ map (λ (x : Record _ _). x.key) records) (e ∙ ap (λ (y : Record _ _). y.key) (sym q))
keys_kept (x ∷ records) (suc k) r s at e = ap (λ l. x.key ∷ l) (keys_kept records k r s at e)

pub map_push : {A B : Type 0} (f : A → B) (ys xs : List A) (y : A) (i : ℕ) (b : B) → ys ≡ xs ++ y ∷ [] → IsAt (map f xs) i b → IsAt (map f ys) i b
map_push f ys xs y i b is at = subst (λ (l : List _). IsAt l i b) (sym (ap (map f) is ∙ map-append f xs (y ∷ []))) (snoc_left (map f xs) i (f y) b at)

pub map_push_end : {A B : Type 0} (f : A → B) (ys xs : List A) (y : A) (k : ℕ) → ys ≡ xs ++ y ∷ [] → length xs ≡ k → IsAt (map f ys) k (f y)
map_push_end f ys xs y k is len = subst (λ (l : List _). IsAt l k (f y)) (sym (ap (map f) is ∙ map-append f xs (y ∷ []))) (subst (λ (j : ℕ). IsAt (map f xs ++ f y ∷ []) j (f y)) (length-map xs f ∙ len) (snoc_end (map f xs) (f y)))
