use Rattle.std.proofs.Common.{rules, of_z, to_z, subst}
use Rattle.std.specs.Prelude.{unsigned_abs, FitsSigned}
use Rattle.std.specs.Int.{w128}
use Rattle.std.proofs.lemmas.Int.{to_z-of_z}
use Prim.Native.Nat.{◌∣◌}
use Rattle.quad_field.proofs.Contents.{nothing_common}
use Rattle.quad_field.proofs.divisors.reduce.Goals as goal

pub returns-clause-reduced : goal.returns-clause-reduced
returns-clause-reduced c k all of_den =
    let q = c.quotient.result in
    let p : FitsSigned w128 q = search rules in
    nothing_common c.args.nums.now c.divide_all.new.nums (to_z w128 (of_z w128 c.args.den.now)) c.common_divisor-g.result q c.common_divisor-g.ensures c.quotient.ensures c.divide_all.ensures k all
    (subst (λ z. k ∣ unsigned_abs z) (to_z-of_z w128 q p) of_den)
