use Rattle.gluing.proofs.Places.{right_at, flat_at}
use Rattle.gluing.proofs.corners.corner_turn.Goals as goal

pub returns-clause-minus : goal.returns-clause-minus
returns-clause-minus c = right_at _ c.args.f.now _ c.args.i _ _ (c.side.ensures.value c.args.f.now) (c.next_side.ensures.value c.args.f.now) c.turn.ensures.minus

pub returns-clause-zero : goal.returns-clause-zero
returns-clause-zero c = flat_at _ c.args.f.now _ c.args.i _ _ (c.side.ensures.value c.args.f.now) (c.next_side.ensures.value c.args.f.now) c.turn.ensures.zero
