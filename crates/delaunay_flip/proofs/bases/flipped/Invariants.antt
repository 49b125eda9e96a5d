use Rattle.std.proofs.Common.{◌-◌}
use Rattle.delaunay_flip.proofs.Finding.{IsOnTheWay}
use Rattle.delaunay_flip.proofs.bases.flipped.Given as goal

abbrev pub invariant-loop-alloc : goal.invariant-loop-alloc
invariant-loop-alloc l = IsOnTheWay l.tri l.at l.flips l.made l.kept

abbrev pub decreases-loop-alloc : goal.decreases-loop-alloc
decreases-loop-alloc l = l.flips - l.made
