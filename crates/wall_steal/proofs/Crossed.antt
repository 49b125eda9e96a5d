-- A ticket's wall, and where it leads.
use Rattle.std.proofs.Common.{◌≡◌, ℕ, zero, suc, ◌<◌, List, [], ◌∷◌, sym, subst}
use Rattle.std.specs.Prelude.{ℤ, slice_index_or}
use Rattle.std.specs.Coded.{×_prop, le_prop}
use mathlib.Core.HLevel.{Σ_prop_path}
use mathlib.Core.Logic.{∥∥₁_elim, ∥∥₁_map}
use Rattle.terrain.specs.Places.{IsAt}
use Rattle.terrain.specs.Reach.{IsReached}
use Rattle.terrain.proofs.CallerLemmas.{lead_reached}
use Rattle.terrain.specs.Stops.{IfFault}
use Rattle.terrain.specs.declared.stop.Stop.{Stop}
use Rattle.terrain.specs.declared.stop.Stop.TheVariants.{Fault, Memory}
use Rattle.class_shards.specs.Entries.{IsSlot}

-- the key has a wall with that number
abbrev pub HasWall : (List ℤ → ℕ → Type 0) → List ℤ → ℕ → Type 0
HasWall Walls k wall = (n : ℕ) × Walls k n × (wall < n)

-- a slot's wall is one of its key's
pub slot_has_wall : (Walls : List ℤ → ℕ → Type 0) → ((k : List ℤ) (n m : ℕ) → Walls k n → Walls k m → n ≡ m) → ((k : List ℤ) (n : ℕ) (a b : Walls k n) → a ≡ b) → (k : List ℤ) (keys : List (List ℤ)) (place wall index : ℕ) → ∥ IsSlot Walls k keys place wall index ∥₁ → HasWall Walls k wall
slot_has_wall Walls one once k keys place wall index slot =
    let each : (n : ℕ) → IsProp (Walls k n × (wall < n)) = λ n. ×_prop (once k n) (le_prop {n = suc wall} {m = n}) in
    let within = ∥∥₁_elim slot
    (λ (x y : (n : ℕ) × (Walls k n × (wall < n))). Σ_prop_path each {u = x} {v = y} (one k x.0 y.0 x.1.0 y.1.0))
    (λ (s : IsSlot Walls k keys place wall index). (s.walls, (s.has, s.within))) in
    (within.0, within.1.0, within.1.1)

module _ {L : Type 0} (Walls : List ℤ → ℕ → Type 0) (Leads : List ℤ → ℕ → List ℤ → L → Type 0) (root k d : List ℤ) (wall : ℕ) (link : L) (has : HasWall Walls k wall) (leads : Leads k wall d link) where
  -- what a reached key's wall leads to is reached
  pub target_reached : IsReached Walls Leads root k → IsReached Walls Leads root d
  target_reached reached = lead_reached Walls Leads root k d reached (record { walls = has.0; has = has.1; wall = wall; within = has.2; link = link; leads = leads })

  -- and what an own key's wall leads to is an own key
  pub target_own : (Own : List ℤ → Type 0) → ((k : List ℤ) (n w : ℕ) (d : List ℤ) (g : L) → Own k → Walls k n → w < n → Leads k w d g → Own d) → ∥ Own k ∥₁ → ∥ Own d ∥₁
  target_own Own further own = ∥∥₁_map own (λ (o : Own k). further k has.0 wall d link o has.1 has.2 leads)

-- what stands at a place is read there
pub read_at : (keys : List (List ℤ)) (i : ℕ) (k : List ℤ) → IsAt keys i k → slice_index_or keys i [] ≡ k
read_at [] i k at = cc
read_at (x ∷ keys) zero k at = cc
read_at (x ∷ keys) (suc i) k at = read_at keys i k at

-- a lead between equal keys
pub leads_same : {L : Type 0} (Leads : List ℤ → ℕ → List ℤ → L → Type 0) (k k' : List ℤ) (w w' : ℕ) (d d' : List ℤ) (link : L) → k' ≡ k → w' ≡ w → d' ≡ d → Leads k w d link → Leads k' w' d' link
leads_same Leads k k' w w' d d' link key wall target lead = subst (λ (x : List ℤ × ℕ × List ℤ). Leads x.0 x.1 x.2 link) (λ i. (sym key i, sym wall i, sym target i)) lead

-- what follows from a fact of a fault holds of the fault, where there is one
pub fault_so : {F : Type 0} (stop : Stop F) (P Q : F → Type 0) → ((f : F) → P f → Q f) → IfFault stop P → IfFault stop Q
fault_so (Fault f) P Q so holds = so f holds
fault_so Memory P Q so holds = tt
