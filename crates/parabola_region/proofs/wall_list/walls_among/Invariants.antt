use Rattle.parabola_region.specs.WallLists.{plain_walls}
use Rattle.parabola_region.specs.Found.{AreWalls}
use Rattle.parabola_region.proofs.wall_list.walls_among.Given as goal

abbrev pub invariant-loop-i : goal.invariant-loop-i
invariant-loop-i l = AreWalls l.f l.tri.halves l.forms l.i (plain_walls l.walls.items)
