use Rattle.std.proofs.Common.{◌≡◌, ◌++◌, take}
use Rattle.std.specs.List.{flat_map}
use Rattle.parabola_region.specs.WallLists.{plain_walls}
use Rattle.answer_text.specs.RegionTexts.{wall_text}
use Rattle.answer_text.proofs.region_lines.put_walls.Given as goal

-- the walls so far
abbrev pub invariant-loop-wall : goal.invariant-loop-wall
invariant-loop-wall l = l.out.items ≡ l.initial.out.items ++ flat_map wall_text (plain_walls (take l.wall-index l.walls))
