use Rattle.gluing.proofs.Places.{alike_at}
use Rattle.gluing.proofs.corners.is_straight.Goals as goal

pub returns : goal.returns
returns c = alike_at _ c.args.f.now _ c.args.i _ _ (c.side.ensures.value c.args.f.now) (c.next_side.ensures.value c.args.f.now) c.point_alike.ensures
