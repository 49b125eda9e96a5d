use Rattle.std.proofs.Common.{◌≡◌, ◌<◌, ◌-◌, suc, length, arith}
use Rattle.plane.specs.Vectors.{vector}
use Rattle.gluing.specs.Polygons.{vectors}
use Rattle.gluing.proofs.Places.{length-vectors, total_more}
use Rattle.gluing.proofs.Widths.{within_more}
use Rattle.gluing.proofs.closed.total.Goals as goal

pub loop-i-preserved : goal.loop-i-preserved
loop-i-preserved c =
    let i : suc (c.loop-i.i - 1) ≡ c.loop-i.i = omega arith in
    let inside : c.loop-i.i - 1 < length (vectors c.args.sides.now) = omega (arith, length-vectors c.args.sides.now) in
    record {
      inside = omega arith;
      long = c.loop-i.invariant.long;
      exact = total_more c.args.f.now (vectors c.args.sides.now) (c.loop-i.i - 1) c.loop-i.i (vector c.side.result.now) (vector c.loop-i.sum) (vector c.add-sum.result) inside i (c.side.ensures.value c.args.f.now) c.loop-i.invariant.exact c.add-sum.ensures;
      within = within_more c.args.f.now (length c.args.sides.now) (c.loop-i.i - 1) c.loop-i.i (vector c.side.result.now) (vector c.loop-i.sum) (vector c.add-sum.result) i c.loop-i.invariant.inside c.side.ensures.bounded c.loop-i.invariant.within c.add-sum.ensures;
    }
