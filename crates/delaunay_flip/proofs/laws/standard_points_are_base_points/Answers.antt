use Rattle.delaunay_flip.proofs.Fractions.{within}
use Rattle.delaunay_flip.proofs.laws.standard_points_are_base_points.Goals as goal

pub returns : goal.returns
returns c = within
