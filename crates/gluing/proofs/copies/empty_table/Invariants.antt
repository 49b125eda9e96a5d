use Rattle.std.proofs.Common.{◌≡◌, take}
use Rattle.gluing.specs.Parts.{sides_of}
use Rattle.gluing.specs.Tables.{rows_of}
use Rattle.gluing.proofs.Rooms.{blank}
use Rattle.gluing.proofs.copies.empty_table.Given as goal

abbrev pub invariant-loop-polygon : goal.invariant-loop-polygon
invariant-loop-polygon l = rows_of l.table.items ≡ blank (sides_of (take l.polygon-index l.polygons))
