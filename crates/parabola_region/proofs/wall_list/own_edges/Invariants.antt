use Rattle.hinge_form.specs.Triples.{of_form}
use Rattle.hinge_form.specs.Walls.{IsListing}
use Rattle.parabola_region.specs.Found.{IsOwnBelow}
use Rattle.parabola_region.proofs.wall_list.own_edges.Given as goal

abbrev pub invariant-loop-i : goal.invariant-loop-i
invariant-loop-i l = IsListing (IsOwnBelow l.f (of_form l.line) l.forms l.i) l.edges.items
