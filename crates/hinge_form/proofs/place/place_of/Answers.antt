use Rattle.std.proofs.Common.{subst, sym}
use Rattle.hinge_form.specs.Hinges.{IsHalfPlanePoint}
use Rattle.hinge_form.proofs.Points.{place_inside, place_from_parts}
use Rattle.hinge_form.proofs.place.place_of.Goals as goal

pub returns-clause-place : goal.returns-clause-place
returns-clause-place c = place_from_parts c.args.at.now c.whole.result c.whole-2.result c.whole-3.result c.requires c.whole.ensures c.whole-2.ensures c.whole-3.ensures

pub returns-clause-inside : goal.returns-clause-inside
returns-clause-inside c d field =
    subst (IsHalfPlanePoint d) (sym (place_from_parts c.args.at.now c.whole.result c.whole-2.result c.whole-3.result c.requires c.whole.ensures c.whole-2.ensures c.whole-3.ensures))
    (place_inside d c.args.at.now c.requires)
