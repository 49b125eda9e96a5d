use Rattle.hinge_form.specs.Hinges.{of_place}
use Rattle.delaunay_flip.proofs.TableLemmas.{IsFilled}
use Rattle.delaunay_flip.proofs.edge_values.EdgeValues.fill.Given as goal

abbrev pub invariant-loop-h : goal.invariant-loop-h
invariant-loop-h l = IsFilled l.tri.field (of_place l.at) l.tri.halves l.h l.self
