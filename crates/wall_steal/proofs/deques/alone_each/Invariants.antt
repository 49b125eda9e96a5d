use Rattle.std.proofs.Common.{◌≡◌, ℕ, vec_len}
use Rattle.terrain.specs.Places.{IsAt}
use Rattle.wall_steal.specs.Deques.{HasRoom}
use Rattle.wall_steal.proofs.deques.alone_each.Given as goal

abbrev pub invariant-loop-worker : goal.invariant-loop-worker
invariant-loop-worker g l = record {
  len : vec_len l.all ≡ l._worker;
  room : (i : ℕ) (h : _) → IsAt l.all.items i h → HasRoom h;
}
