use Rattle.std.proofs.Common.{◌∙◌, ◌+◌, List, sym, subst, ap}
use Rattle.parabola_region.specs.declared.hinge_list.Hinge.{Hinge}
use Rattle.parabola_region.specs.HingeLists.{IsHingeList, IsAdded}
use Rattle.parabola_region.proofs.HingeLists.{list_same, list_more}
use Rattle.parabola_region.proofs.hinge_list.hinges_of.Goals as goal
use Rattle.parabola_region.proofs.hinge_list.hinges_of.Goals.{in-Some+in_ok-push, in_default}

pub loop-h-preserved : goal.loop-h-preserved
loop-h-preserved c = elim c.match-branch-2.branch [
  | in-Some+in_ok-push w ↦
      subst (λ (xs : List Hinge). IsHingeList c.args.tri.now.field c.args.tri.now.halves (c.loop-h.h + 1) xs) (sym (ap (λ v. v.items) w.forms-is ∙ w.in_ok-push.ensures.items))
      (list_more c.args.tri.now.field c.args.tri.now.halves c.loop-h.h c.loop-h.forms.items c.loop-h.invariant w.in-Some.hinge
      (subst (IsAdded c.args.tri.now.field c.args.tri.now.halves c.loop-h.h) w.in-Some.is c.in_ok-hinge.ensures.added))
  | in_default w ↦
      subst (λ (xs : List Hinge). IsHingeList c.args.tri.now.field c.args.tri.now.halves (c.loop-h.h + 1) xs) (sym (ap (λ v. v.items) w.forms-is))
      (list_same c.args.tri.now.field c.args.tri.now.halves c.loop-h.h c.loop-h.forms.items c.loop-h.invariant
      (subst (IsAdded c.args.tri.now.field c.args.tri.now.halves c.loop-h.h) w.in_default.is c.in_ok-hinge.ensures.added))
]
