use Rattle.std.proofs.Common.{refl}
use Rattle.hinge_form.specs.Triples.{of_form, of_place}
use Rattle.hinge_form.proofs.SmallHinges.{medium_fits}
use Rattle.hinge_form.proofs.values.sum_of_products.Goals as goal

pub returns-then-have_medium-clause-fits : goal.returns-then-have_medium-clause-fits
returns-then-have_medium-clause-fits c =
    let medium = c.if-have_medium.ensures.0 refl in
    ((λ _. medium_fits c.args.f.now (of_form c.args.form.now) (of_place c.args.at.now) medium.0 medium.1), λ _. refl)
