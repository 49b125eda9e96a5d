use Rattle.std.proofs.Common.{arith}
use Rattle.std.proofs.lemmas.Nat.Gcd.{IsGcd-from_mod, IsGcd-from_zero}
use Rattle.surface_text.proofs.fractions.divisor.Goals as goal

pub rests-preserved : goal.rests-preserved
rests-preserved c = λ g is. c.rests.invariant g (IsGcd-from_mod c.rests.left c.rests.right g is)

pub returns : goal.returns
returns c = c.rests.invariant c.rests.left (IsGcd-from_zero c.rests.left c.rests.right (omega arith))
