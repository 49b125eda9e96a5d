use Rattle.std.proofs.Common.{arith}
use Rattle.canon_code.proofs.SameSerials.{alike_back, ends_alike, keeps_serials}
use Rattle.canon_code.proofs.orbits.join.Goals as goal

pub returns-then-first-second-clause-same : goal.returns-then-first-second-clause-same
returns-then-first-second-clause-same c = λ d halves alike keep.
    let first = c.first_of-first.result in
    let second = c.first_of-second.result in
    keeps_serials d halves c.args.links.now second first (omega (arith, c.first_of-second.ensures.before, c.requires.second))
    (alike_back d halves first second (ends_alike d halves c.args.h c.args.k first second alike (c.first_of-first.ensures.same d halves keep) (c.first_of-second.ensures.same d halves keep))) keep

pub returns-else-first-second-clause-same : goal.returns-else-first-second-clause-same
returns-else-first-second-clause-same c = λ d halves alike keep.
    let first = c.first_of-first.result in
    let second = c.first_of-second.result in
    keeps_serials d halves c.args.links.now first second (omega (arith, c.first_of-first.ensures.before, c.requires.first))
    (ends_alike d halves c.args.h c.args.k first second alike (c.first_of-first.ensures.same d halves keep) (c.first_of-second.ensures.same d halves keep)) keep
