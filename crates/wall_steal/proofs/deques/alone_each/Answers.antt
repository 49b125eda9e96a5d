use Rattle.std.proofs.Common.{◌+◌, ◌∙◌, ap, subst}
use Rattle.terrain.specs.Places.{IsAt}
use Rattle.wall_steal.specs.Deques.{HasRoom}
use Rattle.wall_steal.proofs.Others.{each_more}
use Rattle.wall_steal.proofs.deques.alone_each.Goals as goal

pub loop-worker-preserved : goal.loop-worker-preserved
loop-worker-preserved g c = record {
  len = c.in_ok-push.ensures.len ∙ ap (λ n. n + 1) c.loop-worker.invariant.len;
  room = λ i h at. each_more HasRoom c.loop-worker.all.items c.in_ok-hands.hands c.in_ok-hands.ensures.room c.loop-worker.invariant.room i h (subst (λ l. IsAt l i h) c.in_ok-push.ensures.items at);
}
