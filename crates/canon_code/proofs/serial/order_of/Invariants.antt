use Rattle.std.proofs.Common.{◌/◌, length}
use Rattle.std.specs.Prelude.{unsigned_abs}
use Rattle.canon_code.specs.Listed.{written_by, twin_by}
use Rattle.canon_code.proofs.Compared.{BeginsWith}
use Rattle.canon_code.proofs.serial.order_of.Given as goal

abbrev pub invariant-loop-t : goal.invariant-loop-t
invariant-loop-t l =
    BeginsWith (written_by l.tried.coordinates.list.items l.tried.numbering.places.items) (twin_by l.tri.halves l.tried.numbering.places.items l.tried.numbering.numbers.items)
    (length l.tri.halves / 3) (unsigned_abs l.tried.coordinates.scale) l.best l.t
