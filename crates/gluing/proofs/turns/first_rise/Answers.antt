use Rattle.std.proofs.Common.{ℕ, ◌<◌, ◌≤◌, below_more, arith}
use Rattle.std.proofs.lemmas.Bool.{both_ways}
use Rattle.gluing.specs.Polygons.{vectors, Rises}
use Rattle.gluing.proofs.Places.{length-vectors}
use Rattle.gluing.proofs.turns.first_rise.Goals as goal

pub loop-i-preserved : goal.loop-i-preserved
loop-i-preserved c = λ k from h.
    below_more (λ (k : ℕ). c.args.from ≤ k → ¬ (Rises c.args.f.now (vectors c.args.sides.now) k)) c.loop-i.i
    (λ k h from. c.loop-i.invariant k from h)
    (λ from r. both_ways _ c.if-rises.false (c.rises.ensures.1 r))
    k h from

pub returns : goal.returns
returns c = λ k from h. let below : k < c.loop-i.i = omega (arith, length-vectors c.args.sides.now) in c.loop-i.invariant k from below
