-- The number of a keeper's seat.
use Rattle.std.specs.Prelude.{ℕ, Option, Some, None}
use Rattle.walls_out.specs.declared.count.CountSeat.{CountSeat}
use Rattle.walls_out.specs.Seats.{view_of}

-- the number, and 0 where there is none
abbrev pub number_or_0 : Option ℕ → ℕ
number_or_0 None = 0
number_or_0 (Some b) = b

-- the number of the keeper whose seat it is
abbrev pub keeper_number : CountSeat → ℕ
keeper_number seat = number_or_0 (view_of seat).keeper
