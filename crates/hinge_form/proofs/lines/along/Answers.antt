use Rattle.hinge_form.specs.Triples.{of_form}
use Rattle.hinge_form.proofs.Relations.{same_from, opposite_from, direction_some}
use Rattle.hinge_form.proofs.lines.along.Goals as goal

pub returns-in-Plus-clause-relation : goal.returns-in-Plus-clause-relation
returns-in-Plus-clause-relation c =
    same_from c.args.f.now c.is_field.ensures (of_form c.args.one.now) (of_form c.args.two.now) c.requires.one c.requires.parallel c.in-Ok.product c.in-Ok.ensures.exact
    c.in-Plus.ensures.sign

pub returns-in-Minus-clause-relation : goal.returns-in-Minus-clause-relation
returns-in-Minus-clause-relation c =
    opposite_from c.args.f.now c.is_field.ensures (of_form c.args.one.now) (of_form c.args.two.now) c.requires.one c.requires.parallel c.in-Ok.product c.in-Ok.ensures.exact
    c.in-Minus.ensures.sign

pub returns-in-Zero-clause-relation : goal.returns-in-Zero-clause-relation
returns-in-Zero-clause-relation c =
    absurd (direction_some c.args.f.now c.is_field.ensures (of_form c.args.one.now) (of_form c.args.two.now) c.requires.one c.requires.parallel c.in-Ok.product c.in-Ok.ensures.exact
    c.requires.two c.in-Zero.ensures.sign)
