use Rattle.std.proofs.Common.{arith, refl, ◌^◌}
use Rattle.quad_field.proofs.Squares.{found, one_more, none_found}
use Rattle.quad_field.proofs.Root.{below_from_squares}
use Rattle.quad_field.proofs.Turns.{never_true}
use Rattle.quad_field.proofs.radicand.is_square_free.Goals as goal

pub returns-then-d-k-eq0 : goal.returns-then-d-k-eq0
returns-then-d-k-eq0 c =
    (λ t. absurd (never_true t), λ free. absurd (found c.args.d c.loop-k.k c.loop-k.invariant.0 c.if-d-k-eq0.true free))

pub loop-k-preserved : goal.loop-k-preserved
loop-k-preserved c = (
  omega arith,
  omega (arith, below_from_squares c.loop-k.k (2 ^ 6) (omega (arith, c.loop-k-test.true, c.requires.small))),
  one_more c.args.d c.loop-k.k c.loop-k.invariant.2 c.if-d-k-eq0.false,
)

pub returns : goal.returns
returns c = (λ _. none_found c.args.d c.loop-k.k c.requires.some (omega (arith, c.loop-k-test.false)) c.loop-k.invariant.2, λ _. refl)
