use Rattle.std.proofs.Common.{◌<◌, arith}
use Rattle.tri_core.proofs.Walks.{image_next}
use Rattle.tri_core.proofs.equality.image_at.Goals as goal

pub returns-clause-carried : goal.returns-clause-carried
returns-clause-carried c forth carries start agree =
    let some : 0 < c.args.i = omega (arith, c.if-i-eq0.false) in
    image_next c.args.one.now c.args.two.now c.args.walk.now c.requires.one c.requires.walk c.args.i c.args.images.now forth some c.requires.place carries agree
