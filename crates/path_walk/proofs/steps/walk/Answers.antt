use Rattle.std.proofs.Common.{◌∙◌}
use Rattle.path_walk.proofs.Walks.{stands_more, end_reached}
use Rattle.path_walk.proofs.steps.walk.Goals as goal

pub loop-place-preserved : goal.loop-place-preserved
loop-place-preserved c = (
  c.in-Ok.ensures.field ∙ c.loop-place.invariant.0,
  stands_more c.args.tri.now.field c.loop-place.at.field c.args.tri.now.halves c.args.choices.now c.loop-place.place c.loop-place.at.halves c.step.new.at.halves
      c.loop-place.invariant.0 c.loop-place.invariant.1 c.in-Ok.ensures.crossed,
)

pub returns-clause-reached : goal.returns-clause-reached
returns-clause-reached c = end_reached c.args.tri.now.field c.args.tri.now.halves c.args.choices.now c.loop-place.place c.loop-place.at.halves c.loop-place.invariant.1
