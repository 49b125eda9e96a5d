use Rattle.std.proofs.Common.{◌*◌}
use Rattle.canon_code.specs.Numbered.{IsUnderWay}
use Rattle.canon_code.proofs.RowsCompared.{BeginsWhole}
use Rattle.canon_code.proofs.whole.compared.Given as goal

-- the search has looked at the triangles that were compared, and these are the best's
abbrev pub invariant-loop-t : goal.invariant-loop-t
invariant-loop-t l = record {
  search : IsUnderWay l.tri.halves l.start.h l.numbering.places.items l.numbering.numbers.items (3 * l.t);
  begins : BeginsWhole l.f l.tri.halves l.start l.best l.t;
}
