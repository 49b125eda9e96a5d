use Rattle.std.proofs.Common.{◌≡◌}
use Rattle.delaunay_flip.proofs.tests.kept_flips.Given as goal

abbrev pub invariant-loop-flips : goal.invariant-loop-flips
invariant-loop-flips l = l.f ≡ l.kept.tri.field
