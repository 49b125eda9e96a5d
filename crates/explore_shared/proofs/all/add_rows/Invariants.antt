use Rattle.std.proofs.Common.{◌≡◌, ◌+◌, ◌++◌, drop, length, vec_len}
use Rattle.std.specs.Vec.Iter.{into_iter_items}
use Rattle.class_shards.specs.Stored.{rows_in}
use Rattle.explore_shared.specs.Records.{rows_of, AreNumbered}
use Rattle.explore_shared.proofs.all.add_rows.Given as goal

abbrev pub invariant-loop-key : goal.invariant-loop-key
invariant-loop-key g l =
    let numbers = g.T.Key.Numbers.numbers in
    record {
      rest : into_iter_items l.rows ≡ drop (length l.yielded) l.fn.rows.items;
      count : vec_len l.records ≡ vec_len l.fn.records + length l.yielded;
      numbered : AreNumbered l.records.items;
      rows : rows_of numbers l.records.items ≡ rows_of numbers l.fn.records.items ++ rows_in numbers l.yielded l.fn.rows.items;
    }
