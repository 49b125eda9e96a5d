-- Ranks: where the keys stand in their order.
use Rattle.std.specs.Prelude.{◌≡◌, ℕ, ◌+◌, ℤ, List, Option, Some, length}
use Rattle.terrain.specs.declared.graph.Lead.{Lead}
use Rattle.terrain.specs.Places.{IsAt}
use Rattle.explore_core.specs.Books.{Slot}
use Rattle.explore_shared.specs.declared.gathered.Gathered.{Gathered}

-- for the number of each record the place of a record with that number
abbrev pub AreRanks : {K R : Type 0} → List (Gathered K R) → List ℕ → Type 0
AreRanks {K} {R} records ranks = (i : ℕ) (g : Gathered K R) → IsAt records i g → (j : ℕ) × (h : Gathered K R) × IsAt ranks g.number j × IsAt records j h × (h.number ≡ g.number)

-- each key of each log has a number, whose rank is its place among the keys
abbrev pub Finds : List (List (List ℤ)) → List ℕ → List ℕ → List (List ℤ) → Type 0
Finds logs starts ranks keys = (q p : ℕ) (log : List (List ℤ)) (k : List ℤ) → IsAt logs q log → IsAt log p k → (start : ℕ) × (rank : ℕ) × IsAt starts q start × IsAt ranks (start + p) rank × IsAt keys rank k

-- the leads are the slots, each with the place of its target among the keys
abbrev pub AreLeadsOf : {L : Type 0} → List (List ℤ) → List (Option (Slot L)) → List (Lead L) → Type 0
AreLeadsOf {L} keys slots leads = (length leads ≡ length slots) × ((w : ℕ) (l : Lead L) → IsAt leads w l → (s : Slot L) × IsAt slots w (Some s) × IsAt keys l.to s.target × (l.link ≡ s.link))
