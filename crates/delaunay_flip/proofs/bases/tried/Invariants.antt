use Rattle.std.proofs.Common.{drop}
use Rattle.delaunay_flip.proofs.Listing.{EndsAs}
use Rattle.delaunay_flip.proofs.bases.tried.Given as goal

abbrev pub invariant-loop-i : goal.invariant-loop-i
invariant-loop-i l = EndsAs l.tri l.flips l.points (drop l.i l.points)
