use Rattle.std.proofs.Common.{◌<◌, length, refl, false, below_more, arith}
use Rattle.std.proofs.lemmas.Bool.{both_ways}
use Rattle.gluing.specs.Polygons.{vectors}
use Rattle.gluing.specs.Bounds.{IsCornerProper}
use Rattle.gluing.proofs.Places.{length-vectors}
use Rattle.gluing.proofs.corners.are_corners_proper.Goals as goal

pub returns-then-not-is_corner_proper : goal.returns-then-not-is_corner_proper
returns-then-not-is_corner_proper c =
    let inside : c.loop-i.i < length (vectors c.args.sides.now) = omega (arith, length-vectors c.args.sides.now) in
    ((λ no. absurd (both_ways false refl no)), (λ all. absurd (both_ways _ c.if-not-is_corner_proper.true (c.is_corner_proper.ensures.1 (all c.loop-i.i inside)))))

pub loop-i-preserved : goal.loop-i-preserved
loop-i-preserved c =
    below_more (IsCornerProper c.args.f.now (vectors c.args.sides.now)) c.loop-i.i c.loop-i.invariant
    (c.is_corner_proper.ensures.0 c.if-not-is_corner_proper.false)

pub returns : goal.returns
returns c = ((λ _ k h. let below : k < c.loop-i.i = omega (arith, length-vectors c.args.sides.now) in c.loop-i.invariant k below), (λ _. refl))
