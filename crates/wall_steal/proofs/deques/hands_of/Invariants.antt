use Rattle.std.proofs.Common.{◌≡◌, ℕ, vec_len}
use Rattle.terrain.specs.Places.{IsAt}
use Rattle.wall_steal.specs.Deques.{own_deque, other_deques, HasRoom}
use Rattle.wall_steal.proofs.Others.{AreToldBelow}
use Rattle.wall_steal.proofs.deques.hands_of.Given as goal

abbrev pub invariant-loop-i : goal.invariant-loop-i
invariant-loop-i g l = record {
  len : vec_len l.all ≡ l.workers;
  room : (i : ℕ) (h : _) → IsAt l.all.items i h → HasRoom h;
  told : AreToldBelow own_deque other_deques l.i l.all.items;
}
