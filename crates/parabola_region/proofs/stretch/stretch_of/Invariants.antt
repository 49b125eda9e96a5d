use Rattle.hinge_form.specs.Triples.{of_form, of_place}
use Rattle.parabola_region.specs.Stretches.{IsStretch}
use Rattle.parabola_region.proofs.stretch.stretch_of.Given as goal

abbrev pub invariant-loop-i : goal.invariant-loop-i
invariant-loop-i l = IsStretch l.f (of_form l.line) (of_place l.start) l.forms l.i l.stretch
