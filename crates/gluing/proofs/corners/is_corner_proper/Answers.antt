use Rattle.std.proofs.Common.{◌≡◌, ◌∙◌, sym}
use Rattle.std.proofs.lemmas.Bool.{both_ways}
use Rattle.gluing.specs.Polygons.{side_at, vectors, no_vector}
use Rattle.gluing.proofs.Places.{none_proper, plus_proper, zero_proper, minus_proper}
use Rattle.gluing.proofs.corners.is_corner_proper.Goals as goal

pub returns-then-is_zero : goal.returns-then-is_zero
returns-then-is_zero c =
    none_proper c.args.f.now (vectors c.args.sides.now) c.args.i (c.side.ensures.value c.args.f.now ∙ c.is_zero.ensures.0 c.if-is_zero.true)

pub returns-in-Plus : goal.returns-in-Plus
returns-in-Plus c =
    let some : ¬ (side_at c.args.f.now (vectors c.args.sides.now) c.args.i ≡ no_vector c.args.f.now) =
    λ e. both_ways _ c.if-is_zero.false (c.is_zero.ensures.1 (sym (c.side.ensures.value c.args.f.now) ∙ e)) in
    plus_proper c.args.f.now (vectors c.args.sides.now) c.args.i some c.in-Plus.ensures.minus c.in-Plus.ensures.zero

pub returns-in-Zero : goal.returns-in-Zero
returns-in-Zero c =
    let some : ¬ (side_at c.args.f.now (vectors c.args.sides.now) c.args.i ≡ no_vector c.args.f.now) =
    λ e. both_ways _ c.if-is_zero.false (c.is_zero.ensures.1 (sym (c.side.ensures.value c.args.f.now) ∙ e)) in
    zero_proper c.args.f.now (vectors c.args.sides.now) c.args.i _ some c.in-Zero.ensures.minus c.in-Zero.ensures.zero c.is_straight.ensures

pub returns-in-Minus : goal.returns-in-Minus
returns-in-Minus c = minus_proper c.args.f.now (vectors c.args.sides.now) c.args.i c.in-Minus.ensures.minus
