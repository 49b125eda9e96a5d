use Rattle.std.proofs.Common.{arith, subst, sym}
use Rattle.std.specs.Int.{IsGcd}
use Rattle.std.proofs.lemmas.Nat.Gcd.{IsGcd-from_zero, IsGcd-from_mod}
use Rattle.quad_field.proofs.divisors.gcd.Goals as goal

pub loop-y-preserved : goal.loop-y-preserved
loop-y-preserved c g h = c.loop-y.invariant g (IsGcd-from_mod _ _ g h)

pub returns : goal.returns
returns c = c.loop-y.invariant _ (IsGcd-from_zero _ _ (omega arith))

pub returns-then-y-le-MAX_64 : goal.returns-then-y-le-MAX_64
returns-then-y-le-MAX_64 c = c.loop-y.invariant c.from.result (subst (IsGcd c.loop-y.x c.loop-y.y) (sym c.from.ensures) c.gcd_64.ensures)
