use Rattle.gluing.specs.Polygons.{vectors}
use Rattle.std.proofs.lemmas.Bool.{both_ways}
use Rattle.gluing.proofs.Convex.{convex_from, convex_corners}
use Rattle.gluing.proofs.turns.is_convex.Goals as goal

pub returns-then-are_corners_proper : goal.returns-then-are_corners_proper
returns-then-are_corners_proper c = (
  (λ yes. convex_from c.args.f.now (vectors c.args.sides.now) (c.are_corners_proper.ensures.0 c.if-are_corners_proper.true) (c.turns_once.ensures.0 yes)),
  (λ convex. c.turns_once.ensures.1 convex.once),
)

pub returns-else-are_corners_proper : goal.returns-else-are_corners_proper
returns-else-are_corners_proper c = (
  (λ yes. absurd (both_ways _ c.if-are_corners_proper.false yes)),
  (λ convex. c.are_corners_proper.ensures.1 (convex_corners c.args.f.now (vectors c.args.sides.now) convex)),
)
