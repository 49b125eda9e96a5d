use Rattle.std.proofs.Common.{ℕ, below_more}
use Rattle.gluing.specs.Parts.{sides_of, line_number}
use Rattle.gluing.specs.Refusals.{glue_conditions, AllHold}
use Rattle.gluing.specs.Tables.{rows_of, line_conditions}
use Rattle.gluing.proofs.Twins.{glue_read, line_fails, line_holds, table_step}
use Rattle.gluing.proofs.lines.first_unglued.Goals as goal

pub returns-in-Some : goal.returns-in-Some
returns-in-Some c = record {
  inside = c.loop-k-test.true;
  before = c.loop-k.invariant.before;
  fails = line_fails c.args.f.now (sides_of c.args.polygons.now) c.args.glues.now (rows_of c.loop-k.table) c.loop-k.k c.loop-k-test.true c.loop-k.invariant.table (line_number c.in-Some.cause) c.in-Some.ensures;
}

pub loop-k-preserved : goal.loop-k-preserved
loop-k-preserved c =
    let holds : AllHold (line_conditions c.args.f.now (sides_of c.args.polygons.now) (rows_of c.loop-k.table) (glue_read c.args.glues.now c.loop-k.k)) =
    rw c.in_default.is at c.cause_of_line.ensures in
    record {
      table = table_step c.args.f.now (sides_of c.args.polygons.now) c.args.glues.now (rows_of c.loop-k.table) c.loop-k.k c.loop-k-test.true c.loop-k.invariant.table (rows_of c.pair.new.table) c.requires.there holds c.pair.ensures;
      before =
          below_more (λ (k : ℕ). AllHold (glue_conditions c.args.f.now (sides_of c.args.polygons.now) c.args.glues.now k)) c.loop-k.k c.loop-k.invariant.before
          (line_holds c.args.f.now (sides_of c.args.polygons.now) c.args.glues.now (rows_of c.loop-k.table) c.loop-k.k c.loop-k-test.true c.loop-k.invariant.table holds);
    }
