-- What contracts see of a count and of a seat.
use Rattle.std.specs.Prelude.{◌≡◌, ℕ, List, Some, slice_get}
use Rattle.atomic_table.specs.Seated.{TableId}
use Rattle.walls_out.specs.declared.view.View.{View}
use Rattle.walls_out.specs.declared.count.Count.{Count}
use Rattle.walls_out.specs.declared.count.CountSeat.{CountSeat}
use Rattle.walls_out.specs.Views.{keeper_of}

-- the name of a count
abbrev pub name_of : Count → TableId
name_of count = count.table.shared.table_id

-- the name of the count that a seat belongs to
abbrev pub count_of : CountSeat → TableId
count_of seat = seat.seat.table_id

-- what a seat knows
abbrev pub view_of : CountSeat → View
view_of seat = seat.seat.me.0

-- seat b is the keeper b of that count, which made and owes nothing
abbrev pub AreKeepers : TableId → List CountSeat → Type 0
AreKeepers name seats = (b : ℕ) (s : CountSeat) → slice_get seats b ≡ Some s → (count_of s ≡ name) × (view_of s ≡ keeper_of (Some b))
