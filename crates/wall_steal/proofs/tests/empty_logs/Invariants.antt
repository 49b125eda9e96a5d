use Rattle.std.proofs.Common.{◌≡◌, [], ℕ, vec_len}
use Rattle.terrain.specs.Places.{IsAt}
use Rattle.receipt_log.specs.Logs.{list_of}
use Rattle.wall_steal.proofs.tests.empty_logs.Given as goal

abbrev pub invariant-loop-shard : goal.invariant-loop-shard
invariant-loop-shard l = record {
  len : vec_len l.logs ≡ l._shard;
  empty : (i : ℕ) (log : _) → IsAt l.logs.items i log → list_of log ≡ [];
}
