use Rattle.std.proofs.Common.{◌≡◌, ℕ, drop, length, vec_len}
use Rattle.terrain.specs.Places.{IsAt}
use Rattle.std.specs.Vec.Iter.{into_iter_items}
use Rattle.explore_shared.specs.Workers.{IsReady}
use Rattle.explore_shared.proofs.run.workers_of.Given as goal

abbrev pub invariant-loop-hands : goal.invariant-loop-hands
invariant-loop-hands g l = record {
  rest : into_iter_items l.seats ≡ drop (length l.yielded) l.fn.seats.items;
  len : vec_len l.workers ≡ length l.yielded;
  ready : (i : ℕ) (w : _) → IsAt l.workers.items i w → IsReady g.N.Naming.count w;
}
