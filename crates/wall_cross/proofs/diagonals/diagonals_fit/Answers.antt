use Rattle.std.proofs.Common.{arith, refl}
use Rattle.std.proofs.lemmas.Bool.{false≢true}
use Rattle.wall_cross.proofs.Ahead.{fits_at, fits_from}
use Rattle.wall_cross.proofs.diagonals.diagonals_fit.Goals as goal

pub returns-then-not-diagonal_fits : goal.returns-then-not-diagonal_fits
returns-then-not-diagonal_fits c = (
  λ t. absurd (false≢true t),
  λ fits. absurd (false≢true (c.if-not-diagonal_fits.ensures.1 (fits_at c.args.tri.now.field c.args.tri.now.halves c.args.edges.now fits c.loop-i.i (omega (arith, c.loop-i-test.true))))),
)

pub returns : goal.returns
returns c = (
  λ t. fits_from c.args.tri.now.field c.args.tri.now.halves c.args.edges.now (λ i under. c.loop-i.invariant i (omega (arith, under, c.loop-i-test.false))),
  λ fits. refl,
)
