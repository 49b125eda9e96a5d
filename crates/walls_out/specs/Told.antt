-- What a step tells its seat.
use Rattle.std.specs.Prelude.{◌≡◌, ◌≢◌, ℕ, ◌<◌, true, [], ◌∷◌, Some}
use Rattle.atomic_table.specs.Table.{Me}
use Rattle.walls_out.specs.declared.entry.Entry.TheVariants.{Wall}
use Rattle.walls_out.specs.declared.view.View.{View}
use Rattle.walls_out.specs.Counting.{has_done}
use Rattle.walls_out.specs.Views.{raised, keeps_front, lowered, saw, last_of}

-- the keeper has done each entry that it made
abbrev pub HasDoneAll : View → Type 0
HasDoneAll v = (k i : ℕ) → v.keeper ≡ Some k → i < v.made → 0 < has_done k i v

-- what a raise, a lower, a lower of the root's entry and a look tell the seat
abbrev pub Raised : ℕ → Me ℕ View → Me ℕ View → Type 0
Raised k v w = (w.0 ≡ raised k v.0) × (w.1 ≡ v.1)

-- the last entry that a keeper owes, if it is its own, is one that it made and has not done
abbrev pub WasOpen : View → Type 0
WasOpen v = (k i : ℕ) → v.keeper ≡ Some k → last_of v.owed ≡ Wall k i ∷ [] → (i < v.made) × (has_done k i v ≡ 0)

abbrev pub Lowered : Me ℕ View → Me ℕ View → Type 0
Lowered v w = (w.0 ≡ lowered v.0) × (w.1 ≡ v.1) × WasOpen v.0

abbrev pub LoweredRoot : Me ℕ View → Me ℕ View → Type 0
LoweredRoot v w = (w.0 ≡ keeps_front v.0) × (w.1 ≡ v.1)

abbrev pub Looked : Me ℕ View → ℕ → Me ℕ View → Type 0
Looked v found w =
    (found ≡ 0 → (w.0 ≡ saw v.0) × (v.0.owed ≡ []) × HasDoneAll v.0)
    × (found ≢ 0 → w.0 ≡ v.0)
    × (v.0.seen ≡ true → found ≡ 0)
    × (w.1 ≡ v.1)
