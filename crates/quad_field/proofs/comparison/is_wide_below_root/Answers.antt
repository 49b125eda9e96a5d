use Rattle.std.proofs.Common.{arith}
use Rattle.quad_field.proofs.Signs.{first_quotient}
use Rattle.quad_field.proofs.comparison.is_wide_below_root.Goals as goal

pub is_below_quotient-requires-clause-quotient : goal.is_below_quotient-requires-clause-quotient
is_below_quotient-requires-clause-quotient c =
    first_quotient c.args.d c.isqrt-root.result c.requires.field c.isqrt-root.ensures.square_le (omega (arith, c.isqrt-root.ensures.next_square_gt))
