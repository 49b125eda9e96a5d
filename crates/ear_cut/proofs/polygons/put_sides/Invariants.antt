use Rattle.std.proofs.Common.{◌≡◌, take}
use Rattle.ear_cut.specs.Cuttings.{outer_sides}
use Rattle.ear_cut.specs.Steps.{seen}
use Rattle.ear_cut.proofs.polygons.put_sides.Given as goal

abbrev pub invariant-loop-e : goal.invariant-loop-e
invariant-loop-e l = seen l.sides.items ≡ outer_sides l.p 0 (take l.e l.vectors)
