use Rattle.ear_cut.proofs.Seen.{sides_step}
use Rattle.ear_cut.proofs.polygons.put_sides.Goals as goal

pub loop-e-preserved : goal.loop-e-preserved
loop-e-preserved c = sides_step c.args.p c.loop-e.e c.args.vectors.now _ c.loop-e.sides.items _ c.loop-e-test.true c.loop-e.invariant c.in_ok-push.ensures.items
