use Rattle.quad_field.proofs.Contents.{quotient_64}
use Rattle.quad_field.proofs.divisors.quotient_64.Goals as goal

pub returns : goal.returns
returns c = quotient_64 c.args.n c.args.g c.ranges.n c.ranges.g c.requires.positive c.requires.divides
