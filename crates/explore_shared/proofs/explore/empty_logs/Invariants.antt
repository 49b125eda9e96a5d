use Rattle.std.proofs.Common.{◌≡◌, ℕ, [], vec_len}
use Rattle.terrain.specs.Places.{IsAt}
use Rattle.receipt_log.specs.Logs.{list_of}
use Rattle.explore_shared.proofs.explore.empty_logs.Given as goal

abbrev pub invariant-loop-shard : goal.invariant-loop-shard
invariant-loop-shard g l = record {
  len : vec_len l.logs ≡ l._shard;
  empty : (i : ℕ) (x : _) → IsAt l.logs.items i x → list_of x ≡ [];
}
