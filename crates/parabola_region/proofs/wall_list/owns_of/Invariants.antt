use Rattle.hinge_form.specs.Triples.{of_form}
use Rattle.parabola_region.specs.Different.{AreOwns}
use Rattle.parabola_region.proofs.wall_list.owns_of.Given as goal

abbrev pub invariant-loop-i : goal.invariant-loop-i
invariant-loop-i l = AreOwns l.f (of_form l.line) l.forms l.i l.owns.items
