use Rattle.std.proofs.Common.{take}
use Rattle.std.specs.List.{AllByRecursion}
use Rattle.surface_text.specs.Limits.{IsPolygon}
use Rattle.gluing.specs.Parts.{sides_of}
use Rattle.gluing.proofs.tests.are_polygons.Given as goal

abbrev pub invariant-loop-p : goal.invariant-loop-p
invariant-loop-p l = AllByRecursion IsPolygon (take l.p (sides_of l.polygons))
