use Rattle.std.proofs.Common.{ap, not}
use Rattle.std.proofs.lemmas.Bool.{both_ways}
use Rattle.plane.specs.Halves.{IsUpper}
use Rattle.plane.specs.Vectors.{vector}
use Rattle.gluing.proofs.Places.{rises_at}
use Rattle.gluing.proofs.corners.rises.Goals as goal

pub returns-then-not-is_upper : goal.returns-then-not-is_upper
returns-then-not-is_upper c =
    rises_at _ c.args.f.now _ c.args.i _ _ (c.side.ensures.value c.args.f.now) (c.next_side.ensures.value c.args.f.now)
    (λ h. both_ways _ c.if-not-is_upper.true (c.is_upper.ensures.1 h))
    c.is_upper-then-not-is_upper.ensures

pub returns-else-not-is_upper : goal.returns-else-not-is_upper
returns-else-not-is_upper c =
    let high : IsUpper c.args.f.now (vector c.side.result.now) = c.is_upper.ensures.0 c.if-not-is_upper.false in
    ((λ yes. absurd (both_ways _ (ap not c.if-not-is_upper.false) yes)), (λ r. absurd (r.0 (rw (c.side.ensures.value c.args.f.now) high))))
