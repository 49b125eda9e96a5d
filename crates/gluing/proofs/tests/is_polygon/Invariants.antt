use Rattle.std.proofs.Common.{take}
use Rattle.std.specs.List.{AllByRecursion}
use Rattle.surface_text.specs.Limits.{IsBoundedVector}
use Rattle.gluing.proofs.tests.is_polygon.Given as goal

abbrev pub invariant-loop-i : goal.invariant-loop-i
invariant-loop-i l = AllByRecursion IsBoundedVector (take l.i l.sides)
