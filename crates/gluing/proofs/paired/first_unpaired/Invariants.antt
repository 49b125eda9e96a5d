use Rattle.std.proofs.Common.{ℕ, ◌<◌}
use Rattle.gluing.specs.Tables.{rows_of, row_at, IsRowFull}
use Rattle.gluing.proofs.paired.first_unpaired.Given as goal

abbrev pub invariant-loop-p : goal.invariant-loop-p
invariant-loop-p l = (k : ℕ) → k < l.p → IsRowFull (row_at (rows_of l.table) k)
