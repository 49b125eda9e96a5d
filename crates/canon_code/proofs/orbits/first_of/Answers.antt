use Rattle.std.proofs.Common.{◌<◌, ℕ, List, length, arith}
use Rattle.canon_code.specs.Numbered.{entry}
use Rattle.canon_code.proofs.SameSerials.{alike_on}
use Rattle.canon_code.proofs.orbits.first_of.Goals as goal

pub loop-first-preserved : goal.loop-first-preserved
loop-first-preserved c =
    let links : List ℕ = c.args.links.now in
    let first : ℕ = c.loop-first.first in
    let before = c.loop-first.invariant.0 in
    let inside : first < length links = omega (arith, before, c.requires.inside) in
    let less : entry links first < first = c.loop-first-test.true in (
      omega (arith, before, less),
      λ d halves keep. alike_on d halves c.args.h first (entry links first) (c.loop-first.invariant.1 d halves keep) (keep first inside),
    )
