use Rattle.std.proofs.Common.{of_z, ap}
use Rattle.std.specs.Int.{w128}
use Rattle.quad_field.proofs.Contents.{quotient_small, quotient_large}
use Rattle.quad_field.proofs.divisors.wide_quotient.Goals as goal

pub returns-then-g : goal.returns-then-g
returns-then-g c = quotient_small c.args.n c.args.g c.ranges.n c.requires.positive c.if-g.true c.requires.divides

pub returns-else-n-eq0 : goal.returns-else-n-eq0
returns-else-n-eq0 c = quotient_large c.args.n c.args.g c.ranges.n c.if-g.false (λ e. c.if-n-eq0.false (ap (of_z w128) e)) c.requires.divides
