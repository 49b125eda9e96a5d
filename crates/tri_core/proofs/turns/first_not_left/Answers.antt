use Rattle.std.proofs.Common.{◌+◌, ◌*◌, below_more}
use Rattle.tri_core.specs.Triangulation.{TurnsInto}
use Rattle.tri_core.proofs.turns.first_not_left.Goals as goal

pub loop-t-preserved : goal.loop-t-preserved
loop-t-preserved c =
    below_more (λ t. TurnsInto c.args.f.now c.args.halves.now (3 * t) (3 * t + 1)) _ c.loop-t.invariant
    (c.in_ok-turns_left.ensures.exact.0 c.if-not-branch.false)
