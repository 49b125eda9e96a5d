use Rattle.std.proofs.Common.{arith}
use Rattle.plane.proofs.Wholes.{negative_large, negative_zero}
use Rattle.plane.proofs.words.read_negative.Goals as goal

pub returns-in_default : goal.returns-in_default
returns-in_default c = negative_large _ c.in-Value.n c.in-Value.ensures.0 (omega arith)

pub returns-in_default-2 : goal.returns-in_default-2
returns-in_default-2 c =
    let read = rw c.in_default.is at c.natural_of.ensures in
    let large = read.2 in
    negative_large _ read.0 read.1 (omega arith)

pub returns-in-Value : goal.returns-in-Value
returns-in-Value c = negative_zero _ (rw c.if-n-eq0.true at c.in-Value.ensures.0)
