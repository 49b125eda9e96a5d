use Rattle.std.proofs.Common.{take}
use Rattle.gluing.specs.Parts.{sides_of}
use Rattle.gluing.specs.Refusals.{glue_conditions, HoldBefore}
use Rattle.gluing.specs.Tables.{rows_of, IsTable}
use Rattle.gluing.proofs.lines.first_unglued.Given as goal

abbrev pub invariant-loop-k : goal.invariant-loop-k
invariant-loop-k l = record {
  table : IsTable (sides_of l.polygons) (take l.k l.glues) (rows_of l.table);
  before : HoldBefore (glue_conditions l.f (sides_of l.polygons) l.glues) l.k;
}
