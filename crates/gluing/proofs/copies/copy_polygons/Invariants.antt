use Rattle.std.proofs.Common.{◌≡◌, take}
use Rattle.gluing.specs.Parts.{sides_of}
use Rattle.gluing.proofs.copies.copy_polygons.Given as goal

abbrev pub invariant-loop-polygon : goal.invariant-loop-polygon
invariant-loop-polygon l = sides_of l.copies.items ≡ sides_of (take l.polygon-index l.polygons)
