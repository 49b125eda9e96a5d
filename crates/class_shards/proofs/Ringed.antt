-- Keys of a ring that are reached from key 0.
use Rattle.std.proofs.Common.{◌≡◌, ◌<◌, ◌+◌, ◌%◌, ℕ, zero, suc, List, [], ◌∷◌, refl, sym, ap, ◌∙◌, subst, arith}
use Rattle.std.specs.Prelude.{ℤ, pos, slice_index_or}
use Rattle.std.proofs.lemmas.Nat.{mod_below}
use Rattle.std.proofs.Math.Nat.{mod-eq_of_lt}
use Rattle.terrain.specs.Places.{IsAt}
use Rattle.terrain.specs.Reach.{LeadsTo, Path, IsReached}
use Rattle.terrain.specs.Reach.Path.{start, on}
use Rattle.terrain.specs.Rings.{HasTwo, RingLeads, ring_step, first_or_zero}

-- wall 0 leads from each key below n to the next
path : (n k : ℕ) → k < n → Path (LeadsTo (HasTwo (pos n ∷ [])) (RingLeads (pos n ∷ []))) (pos 0 ∷ []) (pos k ∷ [])
path n zero h = start
path n (suc k) h = on (path n k (omega arith)) (record { walls = 2; has = refl; wall = 0; within = omega arith; link = 0; leads = (ap (λ (m : ℕ). pos m ∷ []) (let e : suc k ≡ k + 1 = omega arith in e ∙ sym (let h : k + 1 < n = omega arith in mod-eq_of_lt h)), refl) })

-- so each key of the ring is reached
pub ring_reached : (t r : List ℤ) (n k m : ℕ) → t ≡ pos n ∷ [] → r ≡ pos 0 ∷ [] → m ≡ k → k < n → IsReached (HasTwo t) (RingLeads t) r (pos m ∷ [])
ring_reached t r n k m a b e h = subst (λ (y : List ℤ × List ℤ × ℕ). IsReached (HasTwo y.0) (RingLeads y.0) y.1 (pos y.2 ∷ [])) (λ i. (sym a i, sym b i, sym e i)) ∣ path n k h ∣₁

-- what stands at a place is read there
pub read_at : (xs : List (List ℤ)) (i : ℕ) (k : List ℤ) → IsAt xs i k → slice_index_or xs i [] ≡ k
read_at [] i k at = cc
read_at (x ∷ xs) zero k at = let e : x ≡ k = cc in e
read_at (x ∷ xs) (suc i) k at = read_at xs i k at

-- in the ring of one key each wall leads to key 0
pub one_leads : (t k d : List ℤ) (w : ℕ) → t ≡ pos 1 ∷ [] → d ≡ pos 0 ∷ [] → RingLeads t k w d w
one_leads t k d w a b = (b ∙ sym (ap (λ (y : List ℤ). pos (ring_step (first_or_zero k) w % first_or_zero y) ∷ []) a ∙ ap (λ (m : ℕ). pos m ∷ []) none), refl)
  where
    none : ring_step (first_or_zero k) w % 1 ≡ 0
    none = let h = mod_below (ring_step (first_or_zero k) w) 1 (omega arith) in omega arith
