use Rattle.std.proofs.Common.{List, sym, subst, arith}
use Rattle.parabola_region.specs.declared.corner.Corner.{Corner}
use Rattle.parabola_region.specs.WallLists.{plain_walls}
use Rattle.parabola_region.specs.Spots.{IsCornersTo}
use Rattle.parabola_region.proofs.WallLists.{plain_length}
use Rattle.parabola_region.proofs.CornerLists.{no_pairs, all_pairs}
use Rattle.parabola_region.proofs.corner_list.corners_among.Goals as goal

pub loop-i-init : goal.loop-i-init
loop-i-init c =
    subst (λ (xs : List Corner). IsCornersTo c.args.f.now c.args.tri.now.halves (plain_walls c.args.walls.now) 0 1 xs) (sym c.new-corners.ensures.items)
    (no_pairs c.args.f.now c.args.tri.now.halves (plain_walls c.args.walls.now))

pub returns-clause-corners : goal.returns-clause-corners
returns-clause-corners c =
    all_pairs c.args.f.now c.args.tri.now.halves (plain_walls c.args.walls.now) c.loop-i.i c.loop-i.corners.items (omega (arith, plain_length c.args.walls.now, c.loop-i-test.false)) c.loop-i.invariant
