use Rattle.parabola_region.specs.WallLists.{plain_walls}
use Rattle.parabola_region.specs.Spots.{IsCornersTo}
use Rattle.parabola_region.proofs.corner_list.row.Given as goal

abbrev pub invariant-loop-j : goal.invariant-loop-j
invariant-loop-j l = IsCornersTo l.f l.tri.halves (plain_walls l.walls) l.i l.j l.corners.items
