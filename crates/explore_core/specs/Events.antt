-- Events of an exploration, and what they do to a book. Walls says how many walls a key has, and Leads where a wall leads.
use Rattle.std.specs.Prelude.{◌≡◌, ℕ, ℤ, List, [], ◌∷◌, ◌++◌, Some, None, slice_set, ◌⊎◌}
use Rattle.explore_core.specs.declared.event.Event.{Event}
use Rattle.explore_core.specs.declared.event.Event.TheVariants.{Meet, Fill}
use Rattle.terrain.specs.Places.{IsAt}
use Rattle.explore_core.specs.Books.{Slot, Row, HasKey, empty_row}

-- slot w of key k is there and empty, and wall w of k leads to the target by the link
pub record Ticket {L : Type 0} (Leads : List ℤ → ℕ → List ℤ → L → Type 0) (rows : List (Row L)) (k : List ℤ) (w : ℕ) : Type 0 where
  pub from : HasKey rows k
  pub empty : IsAt from.row.slots w None
  pub target : List ℤ
  pub link : L
  pub leads : Leads k w target link

-- key d is added with as many empty slots as it has walls, or nothing where it is there
abbrev pub Adds : {L : Type 0} → (Walls : List ℤ → ℕ → Type 0) → List ℤ → List (Row L) → List (Row L) → Type 0
Adds Walls d before after = (HasKey before d × (after ≡ before)) ⊎ ((HasKey before d → ⊥) × (n : ℕ) × Walls d n × (after ≡ before ++ empty_row d n ∷ []))

-- the row with its slot w filled
abbrev pub with_slot : {L : Type 0} → Row L → ℕ → Slot L → Row L
with_slot r w s = record { key = r.key; slots = slice_set r.slots w (Some s) }

-- Meet(k, w): the key to which wall w of k leads is added, or nothing where it is there
abbrev pub Meets : {L : Type 0} → (Walls : List ℤ → ℕ → Type 0) (Leads : List ℤ → ℕ → List ℤ → L → Type 0) → List ℤ → ℕ → List (Row L) → List (Row L) → Type 0
Meets Walls Leads k w before after = (t : Ticket Leads before k w) × Adds Walls t.target before after

-- Fill(k, w): the key to which wall w of k leads, which is there, and the link are written into slot w of k
abbrev pub Fills : {L : Type 0} → (Leads : List ℤ → ℕ → List ℤ → L → Type 0) → List ℤ → ℕ → List (Row L) → List (Row L) → Type 0
Fills Leads k w before after = (t : Ticket Leads before k w) × HasKey before t.target × (after ≡ slice_set before t.from.place (with_slot t.from.row w (record { target = t.target; link = t.link })))

-- what one event does
abbrev pub Does : {K L : Type 0} → (numbers : K → List ℤ) (Walls : List ℤ → ℕ → Type 0) (Leads : List ℤ → ℕ → List ℤ → L → Type 0) → Event K → List (Row L) → List (Row L) → Type 0
Does numbers Walls Leads (Meet k w) before after = Meets Walls Leads (numbers k) w before after
Does numbers Walls Leads (Fill k w) before after = Fills Leads (numbers k) w before after

-- what a list of events does, one after the other
abbrev pub Runs : {K L : Type 0} → (numbers : K → List ℤ) (Walls : List ℤ → ℕ → Type 0) (Leads : List ℤ → ℕ → List ℤ → L → Type 0) → List (Event K) → List (Row L) → List (Row L) → Type 0
Runs numbers Walls Leads [] before after = before ≡ after
Runs {K} {L} numbers Walls Leads (e ∷ es) before after = (next : List (Row L)) × Does numbers Walls Leads e before next × Runs numbers Walls Leads es next after

-- a schedule: a list of events that starts at the book with the root alone; it is complete where no slot is left empty
abbrev pub IsSchedule : {K L : Type 0} → (numbers : K → List ℤ) (Walls : List ℤ → ℕ → Type 0) (Leads : List ℤ → ℕ → List ℤ → L → Type 0) (root : List ℤ) → List (Event K) → List (Row L) → Type 0
IsSchedule numbers Walls Leads root events after = (n : ℕ) × Walls root n × Runs numbers Walls Leads events (empty_row root n ∷ []) after

-- slot w of key k was filled and nothing was done, or it was met and then filled
abbrev pub FillsSlot : {L : Type 0} → (Walls : List ℤ → ℕ → Type 0) (Leads : List ℤ → ℕ → List ℤ → L → Type 0) → List ℤ → ℕ → List (Row L) → List (Row L) → Type 0
FillsSlot {L} Walls Leads k w before after =
    ((from : HasKey before k) × (s : Slot L) × IsAt from.row.slots w (Some s) × (after ≡ before))
    ⊎ ((met : List (Row L)) × Meets Walls Leads k w before met × Fills Leads k w met after)
