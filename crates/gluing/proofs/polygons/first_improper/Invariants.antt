use Rattle.gluing.specs.Polygons.{polygon_at}
use Rattle.gluing.specs.Parts.{sides_of}
use Rattle.gluing.specs.Refusals.{polygon_conditions, HoldBefore}
use Rattle.gluing.proofs.polygons.first_improper.Given as goal

abbrev pub invariant-loop-p : goal.invariant-loop-p
invariant-loop-p l = HoldBefore (λ k. polygon_conditions l.f (polygon_at (sides_of l.polygons) k)) l.p
