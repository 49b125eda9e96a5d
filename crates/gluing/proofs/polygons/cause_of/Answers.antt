use Rattle.std.proofs.lemmas.Bool.{both_ways}
use Rattle.gluing.proofs.polygons.cause_of.Goals as goal

pub returns-then-is_convex : goal.returns-then-is_convex
returns-then-is_convex c =
    (c.is_closed.ensures.0 c.if-not-is_closed.false, ((λ h. both_ways _ c.if-is_flat.false (c.is_flat.ensures.1 h)), (c.is_convex.ensures.0 c.if-is_convex.true, tt)))
