use Rattle.std.proofs.Common.{◌∙◌, ◌<◌, length, arith}
use Rattle.canon_code.proofs.orbits.join_all.Goals as goal

pub loop-k-preserved : goal.loop-k-preserved
loop-k-preserved c =
    let less : c.loop-k.k < length c.args.from.now = omega (arith, c.loop-k-test.true) in (
      c.join.ensures.as_many ∙ c.loop-k.invariant.0,
      c.join.ensures.back,
      λ d halves alike keep. c.join.ensures.same d halves (alike c.loop-k.k less) (c.loop-k.invariant.2 d halves alike keep),
    )
