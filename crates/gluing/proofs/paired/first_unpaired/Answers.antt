use Rattle.std.proofs.Common.{◌≡◌, ◌∙◌, ℕ, sym, subst, below_more}
use Rattle.gluing.specs.Tables.{rows_of, row_at, IsRowFull}
use Rattle.gluing.proofs.Rooms.{row_is}
use Rattle.gluing.proofs.paired.first_unpaired.Goals as goal

pub loop-p-preserved : goal.loop-p-preserved
loop-p-preserved c =
    let row : row_at (rows_of c.args.table.now) c.loop-p.p ≡ c.as_slice.result.now =
    row_is c.args.table.now c.loop-p.p c.index-table-p.result c.loop-p-test.true c.index-table-p.is ∙ sym c.as_slice.ensures.value in
    below_more (λ (k : ℕ). IsRowFull (row_at (rows_of c.args.table.now) k)) c.loop-p.p c.loop-p.invariant
    (subst IsRowFull (sym row) (c.is_row_full.ensures.0 c.if-not-is_row_full.false))
