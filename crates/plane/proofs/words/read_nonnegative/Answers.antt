use Rattle.std.proofs.Common.{arith}
use Rattle.plane.proofs.Wholes.{nonnegative_large}
use Rattle.plane.proofs.words.read_nonnegative.Goals as goal

pub returns-in_default : goal.returns-in_default
returns-in_default c = nonnegative_large _ c.in-Value.n c.in-Value.ensures.0 (omega arith)

pub returns-in_default-2 : goal.returns-in_default-2
returns-in_default-2 c =
    let read = c.in_default.ensures in
    let large = read.2 in
    nonnegative_large _ read.0 read.1 (omega arith)
