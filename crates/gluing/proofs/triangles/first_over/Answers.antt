use Rattle.std.proofs.Common.{◌≡◌, ◌+◌, ◌<◌, ◌≤◌, ℕ, length, take, arith, below_more}
use Rattle.gluing.specs.Gluings.{triangle_count}
use Rattle.gluing.specs.Parts.{sides_of}
use Rattle.gluing.proofs.Convex.{length-sides}
use Rattle.gluing.proofs.Twins.{count-more}
use Rattle.gluing.proofs.triangles.first_over.Goals as goal

pub returns-then-triangles-count : goal.returns-then-triangles-count
returns-then-triangles-count c =
    let inside : c.loop-p.p < length (sides_of c.args.polygons.now) = omega (arith, length-sides c.args.polygons.now) in
    let more = count-more (sides_of c.args.polygons.now) c.loop-p.p c.sides_at.result.now inside c.sides_at.ensures.value in
    let few : c.loop-p.count ≤ 256 = c.loop-p.invariant.few in
    let exact : triangle_count (take c.loop-p.p (sides_of c.args.polygons.now)) ≡ c.loop-p.count = c.loop-p.invariant.exact in
    (inside, c.loop-p.invariant.before, (λ h. let no : ⊥ = omega (arith, more, few, exact, h) in no))

pub loop-p-preserved : goal.loop-p-preserved
loop-p-preserved c =
    let inside : c.loop-p.p < length (sides_of c.args.polygons.now) = omega (arith, length-sides c.args.polygons.now) in
    let more = count-more (sides_of c.args.polygons.now) c.loop-p.p c.sides_at.result.now inside c.sides_at.ensures.value in
    let few : c.loop-p.count ≤ 256 = c.loop-p.invariant.few in
    let exact : triangle_count (take c.loop-p.p (sides_of c.args.polygons.now)) ≡ c.loop-p.count = c.loop-p.invariant.exact in
    let low : triangle_count (take (c.loop-p.p + 1) (sides_of c.args.polygons.now)) ≤ 256 = omega (arith, more, few, exact) in
    record {
      exact = omega (arith, more, exact);
      few = omega arith;
      before = below_more (λ (k : ℕ). triangle_count (take (k + 1) (sides_of c.args.polygons.now)) ≤ 256) c.loop-p.p c.loop-p.invariant.before low;
    }
