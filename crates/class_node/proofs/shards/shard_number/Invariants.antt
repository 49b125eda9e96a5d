use Rattle.std.proofs.Common.{◌≡◌}
use Rattle.std.specs.Prelude.{pos, unsigned_abs}
use Rattle.std.specs.Int.{int_rem_euclid}
use Rattle.class_node.specs.Shards.{shard_sum}
use Rattle.class_node.proofs.shards.shard_number.Given as goal

abbrev pub invariant-loop-i : goal.invariant-loop-i
invariant-loop-i l = l.shard ≡ unsigned_abs (int_rem_euclid (shard_sum l.numbers l.i) (pos 16))
