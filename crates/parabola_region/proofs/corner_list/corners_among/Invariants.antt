use Rattle.std.proofs.Common.{◌+◌}
use Rattle.parabola_region.specs.WallLists.{plain_walls}
use Rattle.parabola_region.specs.Spots.{IsCornersTo}
use Rattle.parabola_region.proofs.corner_list.corners_among.Given as goal

abbrev pub invariant-loop-i : goal.invariant-loop-i
invariant-loop-i l = IsCornersTo l.f l.tri.halves (plain_walls l.walls) l.i (l.i + 1) l.corners.items
