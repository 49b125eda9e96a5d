use Rattle.std.proofs.Common.{◌≡◌, pos, arith}
use Rattle.std.proofs.lemmas.Int.{ints}
use Rattle.plane.proofs.Wholes.{positive_zero, positive_is, positive_large}
use Rattle.plane.proofs.words.read_positive.Goals as goal

pub returns-in-Value : goal.returns-in-Value
returns-in-Value c =
    let read = c.in-Value.ensures in
    let fits = read.1 in
    let zero : c.in-Value.n ≡ pos 0 = omega (arith, ints) in
    positive_zero _ (rw zero at read.0)

pub returns-in-Large : goal.returns-in-Large
returns-in-Large c = positive_large _ c.in-Large.ensures

pub returns-in-Not : goal.returns-in-Not
returns-in-Not c = λ n is. c.in-Not.ensures n (positive_is _ n is)
