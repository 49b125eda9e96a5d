use Rattle.std.proofs.Common.{take}
use Rattle.std.specs.List.{AllByRecursion}
use Rattle.surface_text.specs.Limits.{NamesSides}
use Rattle.gluing.specs.Parts.{sides_of}
use Rattle.gluing.proofs.tests.are_there.Given as goal

abbrev pub invariant-loop-k : goal.invariant-loop-k
invariant-loop-k l = AllByRecursion (NamesSides (sides_of l.polygons)) (take l.k l.glues)
