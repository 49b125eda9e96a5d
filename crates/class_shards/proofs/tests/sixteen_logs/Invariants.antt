use Rattle.std.proofs.Common.{◌≡◌, [], ℕ, Some, vec_len}
use Rattle.std.specs.Prelude.{slice_get}
use Rattle.receipt_log.specs.Logs.{list_of}
use Rattle.class_shards.proofs.tests.sixteen_logs.Given as goal

abbrev pub invariant-loop-i : goal.invariant-loop-i
invariant-loop-i l = record {
  len : vec_len l.logs ≡ l._i;
  empty : (i : ℕ) (log : _) → slice_get l.logs.items i ≡ Some log → list_of log ≡ [];
}
