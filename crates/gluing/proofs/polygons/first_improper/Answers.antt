use Rattle.std.proofs.Common.{◌<◌, ℕ, List, sym, subst, below_more, arith}
use Rattle.plane.specs.declared.vec2.Vec2.{Vec2}
use Rattle.gluing.specs.Polygons.{vectors, polygon_at}
use Rattle.gluing.specs.Parts.{sides_of, polygon_number}
use Rattle.gluing.specs.Refusals.{polygon_conditions, AllHold, FailsFor}
use Rattle.gluing.proofs.Convex.{length-sides}
use Rattle.gluing.proofs.polygons.first_improper.Goals as goal

pub returns-in-Some : goal.returns-in-Some
returns-in-Some c = record {
  inside = omega (arith, length-sides c.args.polygons.now);
  before = c.loop-p.invariant;
  fails = subst (λ (s : List Vec2). FailsFor (polygon_number c.in-Some.cause) (polygon_conditions c.args.f.now (vectors s))) (sym c.sides_at.ensures.value) c.in-Some.ensures;
}

pub loop-p-preserved : goal.loop-p-preserved
loop-p-preserved c =
    below_more (λ (k : ℕ). AllHold (polygon_conditions c.args.f.now (polygon_at (sides_of c.args.polygons.now) k))) c.loop-p.p c.loop-p.invariant
    (subst (λ (s : List Vec2). AllHold (polygon_conditions c.args.f.now (vectors s))) (sym c.sides_at.ensures.value) (rw c.in_default.is at c.cause_of.ensures))

pub returns : goal.returns
returns c = λ k h. let below : k < c.loop-p.p = omega (arith, length-sides c.args.polygons.now) in c.loop-p.invariant k below
