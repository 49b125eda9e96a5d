use Rattle.std.proofs.Common.{ap, ◌∙◌}
use Rattle.std.specs.Prelude.{unsigned_abs}
use Rattle.std.specs.Int.{w128}
use Rattle.std.proofs.lemmas.Int.{to_z-of_z}
use Rattle.quad_field.proofs.Contents.{common_is}
use Rattle.quad_field.proofs.divisors.common_divisor.Goals as goal

pub returns : goal.returns
returns c =
    common_is c.args.nums.now c.args.den c.unsigned_abs.result c.content.result c.gcd.result c.requires
    (c.unsigned_abs.ensures.value ∙ ap unsigned_abs (to_z-of_z w128 c.args.den c.ranges.den)) c.gcd.ensures c.content.ensures.divides c.content.ensures.greatest
