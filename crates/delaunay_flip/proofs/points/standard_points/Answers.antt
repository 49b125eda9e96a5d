use Rattle.std.proofs.Common.{arith}
use Rattle.delaunay_flip.proofs.Fractions.{within}
use Rattle.delaunay_flip.proofs.points.standard_points.Goals as goal

pub returns-clause-within : goal.returns-clause-within
returns-clause-within c = grind (within, arith)
