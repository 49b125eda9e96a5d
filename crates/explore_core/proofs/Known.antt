-- What is known of a key of a book: it is reached, it is the terrain's own, and it has its walls.
use Rattle.std.proofs.Common.{◌≡◌, ℕ, ◌<◌, List, length, None, sym, ◌∙◌, subst}
use Rattle.std.specs.Prelude.{ℤ}
use mathlib.Core.Logic.{∥∥₁_elim, ∥∥₁_prop}
use mathlib.Core.HLevel.{⊥_prop}
use Rattle.terrain.specs.Places.{IsAt}
use Rattle.terrain.specs.Reach.{IsReached}
use Rattle.terrain.proofs.CallerLemmas.{at_one, lead_reached, own_reached}
use Rattle.explore_core.specs.Books.{Row, IsOpen, IsSound}

module _ {L : Type 0} (Walls : List ℤ → ℕ → Type 0) (Leads : List ℤ → ℕ → List ℤ → L → Type 0) (root : List ℤ) where
  -- a reached key is the terrain's own, where only the fact that the root is so is known
  pub own_of : (Own : List ℤ → Type 0) → ((k : List ℤ) (a b : Own k) → a ≡ b) → ((k : List ℤ) (n w : ℕ) (d : List ℤ) (g : L) → Own k → Walls k n → w < n → Leads k w d g → Own d) → (k : List ℤ) → ∥ Own root ∥₁ → IsReached Walls Leads root k → Own k
  own_of Own once further k own reached = ∥∥₁_elim own (once k) (λ (o : Own root). own_reached Walls Leads root Own once further o k reached)

  module _ (rows : List (Row L)) (sound : ∥ IsSound Walls Leads root rows ∥₁) where
    pub key_reached : (i : ℕ) (r : Row L) → IsAt rows i r → IsReached Walls Leads root r.key
    key_reached i r at = ∥∥₁_elim sound ∥∥₁_prop (λ (s : IsSound Walls Leads root rows). s.reached i r at)

    pub key_walls : ((k : List ℤ) (n : ℕ) (a b : Walls k n) → a ≡ b) → (i : ℕ) (r : Row L) → IsAt rows i r → Walls r.key (length r.slots)
    key_walls once i r at = ∥∥₁_elim sound (once r.key (length r.slots)) (λ (s : IsSound Walls Leads root rows). s.walls i r at)

    pub lead_is_reached : (i : ℕ) (r : Row L) (w : ℕ) (d : List ℤ) (g : L) → IsAt rows i r → w < length r.slots → Leads r.key w d g → IsReached Walls Leads root d
    lead_is_reached i r w d g at h leads = ∥∥₁_elim sound ∥∥₁_prop (λ (s : IsSound Walls Leads root rows). lead_reached Walls Leads root r.key d (s.reached i r at) (record { walls = length r.slots; has = s.walls i r at; wall = w; within = h; link = g; leads = leads }))

    -- a slot that isn't empty isn't open
    pub not_open : (place : ℕ) (r : Row L) (k : List ℤ) (w : ℕ) → IsAt rows place r → r.key ≡ k → (IsAt r.slots w None → ⊥) → IsOpen rows k w → ⊥
    not_open place r k w at is full o = ∥∥₁_elim sound ⊥_prop (λ (s : IsSound Walls Leads root rows).
        let there : o.0.place ≡ place = s.once o.0.place place o.0.row r o.0.at at (o.0.is ∙ sym is) in
        let same : o.0.row ≡ r = at_one rows place o.0.row r (subst (λ (i : ℕ). IsAt rows i o.0.row) there o.0.at) at in
        full (subst (λ (q : Row L). IsAt q.slots w None) same o.1))

-- the same facts under other names
pub own_as : (Own : List ℤ → List ℤ → Type 0) (t t' k k' : List ℤ) → t ≡ t' → k ≡ k' → Own t' k' → Own t k
own_as Own t t' k k' a b o = subst (λ (x : List ℤ × List ℤ). Own x.0 x.1) (λ i. (sym a i, sym b i)) o

pub sound_as : {L : Type 0} (Walls : List ℤ → List ℤ → ℕ → Type 0) (Leads : List ℤ → List ℤ → ℕ → List ℤ → L → Type 0) (t t' root root' : List ℤ) (rows rows' : List (Row L)) → t ≡ t' → root ≡ root' → rows ≡ rows' → IsSound (Walls t') (Leads t') root' rows' → IsSound (Walls t) (Leads t) root rows
sound_as {L} Walls Leads t t' root root' rows rows' a b e s = subst (λ (x : List ℤ × List ℤ × List (Row L)). IsSound (Walls x.0) (Leads x.0) x.1 x.2) (λ i. (sym a i, sym b i, sym e i)) s
