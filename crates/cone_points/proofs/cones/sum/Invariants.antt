use Rattle.std.proofs.Common.{◌≡◌, ◌+◌, drop}
use Rattle.cone_points.specs.Angles.{sum_of}
use Rattle.cone_points.proofs.cones.sum.Given as goal

abbrev pub invariant-loop-i : goal.invariant-loop-i
invariant-loop-i l = l.sum + sum_of (drop l.i l.turns) ≡ sum_of l.turns
