use Rattle.std.proofs.Common.{subst, arith, below_more}
use Rattle.std.specs.List.{Contains}
use Rattle.std.proofs.lemmas.Bool.{false≢true}
use Rattle.parabola_region.specs.WallLists.{PlainWall, wall_at, plain_walls}
use Rattle.parabola_region.proofs.WallLists.{plain_at, plain_length}
use Rattle.parabola_region.proofs.wall_list.is_covered.Goals as goal

pub loop-wall-preserved : goal.loop-wall-preserved
loop-wall-preserved c =
    below_more (λ j. ¬ (Contains (wall_at (plain_walls c.args.walls.now) j).1 c.args.edge)) c.loop-wall.wall-index c.loop-wall.invariant
    (λ has. false≢true (c.if-has_edge.ensures.1 (subst (λ (p : PlainWall). Contains p.1 c.args.edge) (plain_at c.args.walls.now c.loop-wall.wall-index c.wall-item.result c.loop-wall-test.true c.wall-item.is) has)))

pub returns : goal.returns
returns c = (
  λ t. absurd (false≢true t),
  λ covered. absurd (c.loop-wall.invariant covered.0 (omega (arith, covered.1, plain_length c.args.walls.now, c.loop-wall-test.false)) covered.2),
)
