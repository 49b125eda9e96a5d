-- What contracts see of a log and of a receipt.
use Rattle.std.specs.Prelude.{ℕ, ℤ, List}
use Rattle.atomic_table.specs.Seated.{TableId}
use Rattle.terrain.specs.declared.numbers.Numbers.{Ghosts}
use Rattle.receipt_log.specs.declared.keeper.LogKeeper.{LogKeeper}
use Rattle.receipt_log.specs.declared.receipt.Receipt.{Receipt}

module _ {E : Type 0} {G : Ghosts E} where
  -- the name of a log
  abbrev pub name_of_log : LogKeeper E G → TableId
  name_of_log keeper = keeper.seat.table_id

  -- its entries, in order
  abbrev pub list_of : LogKeeper E G → List (List ℤ)
  list_of keeper = keeper.seat.me.0.list

  -- the name of the log that a receipt is of
  abbrev pub log_of : Receipt E G → TableId
  log_of receipt = receipt.seat.table_id

  -- the place of its entry
  abbrev pub place_of : Receipt E G → ℕ
  place_of receipt = receipt.place

  -- the entries that it has seen, in order
  abbrev pub seen_by : Receipt E G → List (List ℤ)
  seen_by receipt = receipt.seat.me.0.list
