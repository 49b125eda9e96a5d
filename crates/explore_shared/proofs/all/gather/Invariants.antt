use Rattle.std.proofs.Common.{◌≡◌, ◌≤◌, length, map, true, vec_len}
use Rattle.walls_out.specs.Seats.{count_of, view_of}
use Rattle.receipt_log.specs.Logs.{list_of}
use Rattle.class_shards.specs.Agreement.{AreFilled}
use Rattle.explore_shared.specs.Gathered.{AreGathered}
use Rattle.explore_shared.specs.Records.{rows_of, AreNumbered, AreNamed}
use Rattle.explore_shared.proofs.all.gather.Given as goal

abbrev pub invariant-loop-shard : goal.invariant-loop-shard
invariant-loop-shard g l =
    let numbers = g.T.Key.Numbers.numbers in
    let t = g.N.Naming.terrain in
    record {
      count : count_of l.seen ≡ g.N.Naming.count;
      seen : (view_of l.seen).seen ≡ true;
      few : vec_len l.all.records ≤ l.limit;
      logs : vec_len l.all.logs ≡ length l.yielded;
      names : AreNamed g.N.Naming.logs l.all.logs.items;
      numbered : AreNumbered l.all.records.items;
      gathered : ∥ AreGathered (g.T.Terrain.has_walls t) (g.T.Terrain.leads t) g.T.Terrain.shard g.N.Naming.root (vec_len l.all.logs) (rows_of numbers l.all.records.items) (map list_of l.all.logs.items) l.all.starts.items ∥₁;
      filled : AreFilled (rows_of numbers l.all.records.items);
    }
