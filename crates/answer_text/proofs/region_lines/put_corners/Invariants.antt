use Rattle.std.proofs.Common.{◌≡◌, ◌++◌, take}
use Rattle.std.specs.List.{flat_map}
use Rattle.answer_text.specs.RegionTexts.{corner_text}
use Rattle.answer_text.proofs.region_lines.put_corners.Given as goal

-- the corners so far
abbrev pub invariant-loop-corner : goal.invariant-loop-corner
invariant-loop-corner l = l.out.items ≡ l.initial.out.items ++ flat_map corner_text (take l.corner-index l.corners)
