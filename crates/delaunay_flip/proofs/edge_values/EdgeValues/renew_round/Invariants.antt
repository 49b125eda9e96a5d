use Rattle.std.proofs.Common.{drop}
use Rattle.hinge_form.specs.Hinges.{of_place}
use Rattle.delaunay_flip.specs.Tables.{IsTableBut}
use Rattle.delaunay_flip.proofs.edge_values.EdgeValues.renew_round.Given as goal

abbrev pub invariant-loop-side : goal.invariant-loop-side
invariant-loop-side l = IsTableBut l.tri.field (of_place l.at) l.tri.halves (drop l.side-index l.side-items) l.self
