use Rattle.std.proofs.Common.{arith, subst, sym}
use Rattle.std.specs.Prelude.{unsigned_abs, FitsSigned}
use Rattle.std.specs.Int.{w64, w128}
use Rattle.std.proofs.lemmas.Int.{ints, to_z-of_z}
use Prim.Native.Nat.{◌∣◌}
use Rattle.quad_field.proofs.Contents.{narrowed_divides}
use Rattle.quad_field.proofs.divisors.quotient.Goals as goal

pub quotient_64-requires-clause-divides : goal.quotient_64-requires-clause-divides
quotient_64-requires-clause-divides c =
    let n = c.args.n in
    let same = to_z-of_z w128 n c.ranges.n in
    let narrow : FitsSigned w64 n = omega (arith, ints, same, c.if-n-ge-MIN_64.true, c.if-n-le-MAX_SIGNED_64.true) in
    narrowed_divides n c.args.g c.ranges.n narrow c.if-g.true c.requires.divides

pub wide_quotient-requires-clause-divides : goal.wide_quotient-requires-clause-divides
wide_quotient-requires-clause-divides c = subst (λ z. c.args.g ∣ unsigned_abs z) (sym (to_z-of_z w128 c.args.n c.ranges.n)) c.requires.divides
