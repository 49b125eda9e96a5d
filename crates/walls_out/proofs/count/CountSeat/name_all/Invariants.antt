use Rattle.std.proofs.Common.{◌≡◌, vec_len}
use Rattle.walls_out.specs.Views.{first_seat}
use Rattle.walls_out.specs.Seats.{AreKeepers}
use Rattle.walls_out.proofs.count.CountSeat.name_all.Given as goal

abbrev pub invariant-loop-b : goal.invariant-loop-b
invariant-loop-b l =
    (l.self.seat.table_id ≡ l.initial.self.seat.table_id)
    × (l.self.seat.me.0 ≡ first_seat l.b)
    × (vec_len l.all ≡ l.b)
    × AreKeepers l.initial.self.seat.table_id l.all.items
