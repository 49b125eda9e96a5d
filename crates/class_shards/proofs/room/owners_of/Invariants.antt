use Rattle.std.proofs.Common.{◌≡◌, ℕ, Some, vec_len}
use Rattle.std.specs.Prelude.{slice_get}
use Rattle.std.specs.Arc.{arc_value}
use Rattle.class_shards.proofs.room.owners_of.Given as goal

abbrev pub invariant-loop-i : goal.invariant-loop-i
invariant-loop-i g l = record {
  len : vec_len l.keys ≡ l._i;
  each : (i : ℕ) (a : _) → slice_get l.keys.items i ≡ Some a → arc_value a ≡ arc_value l.key;
}
