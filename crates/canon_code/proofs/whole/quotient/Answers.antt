use Rattle.canon_code.proofs.Divisors.{quotient_is}
use Rattle.canon_code.proofs.whole.quotient.Goals as goal

pub returns : goal.returns
returns c = quotient_is c.args.n c.args.g c.ranges.n c.ranges.g c.requires.positive c.requires.divides
