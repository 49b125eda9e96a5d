-- Why an event is refused.
use Rattle.std.specs.Prelude.{ℕ, ℤ, List, ◌⊎◌}
use Rattle.terrain.specs.declared.stop.Stop.{Stop}
use Rattle.terrain.specs.declared.stop.Stop.TheVariants as stops
use Rattle.explore_core.specs.declared.event.Event.{Event}
use Rattle.explore_core.specs.declared.event.Event.TheVariants.{Meet, Fill}
use Rattle.explore_core.specs.declared.event.StepFault.{StepFault}
use Rattle.explore_core.specs.declared.event.StepFault.TheVariants.{NoTicket, NotMet, Fault, Memory}
use Rattle.explore_core.specs.Books.{Row, HasKey, IsOpen}
use Rattle.explore_core.specs.Events.{Ticket}

-- the fault of a step in which a terrain's call stopped
abbrev pub step_fault : {F : Type 0} → Stop F → StepFault F
step_fault (stops.Fault f) = Fault f
step_fault stops.Memory = Memory

-- why Meet(k, w) is refused: the slot isn't there or isn't empty; the wall is stuck, or the key to which it leads
abbrev pub RefusesMeet : {L F : Type 0} → (Leads : List ℤ → ℕ → List ℤ → L → Type 0) (StuckAt : List ℤ → ℕ → F → Type 0) (Stuck : List ℤ → F → Type 0) → List (Row L) → List ℤ → ℕ → StepFault F → Type 0
RefusesMeet Leads StuckAt Stuck rows k w NoTicket = IsOpen rows k w → ⊥
RefusesMeet Leads StuckAt Stuck rows k w NotMet = ⊥
RefusesMeet Leads StuckAt Stuck rows k w (Fault f) = IsOpen rows k w × (StuckAt k w f ⊎ ((t : Ticket Leads rows k w) × Stuck t.target f))
RefusesMeet Leads StuckAt Stuck rows k w Memory = Unit {0}

-- why Fill(k, w) is refused: the slot isn't there or isn't empty; the key to which the wall leads isn't in the book; the wall is stuck
abbrev pub RefusesFill : {L F : Type 0} → (Leads : List ℤ → ℕ → List ℤ → L → Type 0) (StuckAt : List ℤ → ℕ → F → Type 0) → List (Row L) → List ℤ → ℕ → StepFault F → Type 0
RefusesFill Leads StuckAt rows k w NoTicket = IsOpen rows k w → ⊥
RefusesFill Leads StuckAt rows k w NotMet = (t : Ticket Leads rows k w) × (HasKey rows t.target → ⊥)
RefusesFill Leads StuckAt rows k w (Fault f) = IsOpen rows k w × StuckAt k w f
RefusesFill Leads StuckAt rows k w Memory = Unit {0}

-- why an event is refused
abbrev pub Refuses : {K L F : Type 0} → (numbers : K → List ℤ) (Leads : List ℤ → ℕ → List ℤ → L → Type 0) (StuckAt : List ℤ → ℕ → F → Type 0) (Stuck : List ℤ → F → Type 0) → List (Row L) → Event K → StepFault F → Type 0
Refuses numbers Leads StuckAt Stuck rows (Meet k w) e = RefusesMeet Leads StuckAt Stuck rows (numbers k) w e
Refuses numbers Leads StuckAt Stuck rows (Fill k w) e = RefusesFill Leads StuckAt rows (numbers k) w e

-- the event's slot is there and empty
abbrev pub HasTicket : {K L : Type 0} → (numbers : K → List ℤ) → List (Row L) → Event K → Type 0
HasTicket numbers rows (Meet k w) = IsOpen rows (numbers k) w
HasTicket numbers rows (Fill k w) = IsOpen rows (numbers k) w

-- a Fill whose slot is there and empty, while the key to which the wall leads isn't in the book
abbrev pub IsUnmet : {K L : Type 0} → (numbers : K → List ℤ) (Leads : List ℤ → ℕ → List ℤ → L → Type 0) → List (Row L) → Event K → Type 0
IsUnmet numbers Leads rows (Meet k w) = ⊥
IsUnmet numbers Leads rows (Fill k w) = (t : Ticket Leads rows (numbers k) w) × (HasKey rows t.target → ⊥)

-- the answer to it: not met, unless the terrain's call stopped
abbrev pub IsNotMet : {F : Type 0} → StepFault F → Type 0
IsNotMet NoTicket = ⊥
IsNotMet NotMet = Unit {0}
IsNotMet (Fault f) = Unit {0}
IsNotMet Memory = Unit {0}
