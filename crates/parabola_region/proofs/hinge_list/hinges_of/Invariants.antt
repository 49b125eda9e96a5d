use Rattle.parabola_region.specs.HingeLists.{IsHingeList}
use Rattle.parabola_region.proofs.hinge_list.hinges_of.Given as goal

abbrev pub invariant-loop-h : goal.invariant-loop-h
invariant-loop-h l = IsHingeList l.tri.field l.tri.halves l.h l.forms.items
