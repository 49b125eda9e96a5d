use Rattle.std.proofs.Common.{◌∙◌, refl, sym}
use Rattle.std.proofs.lemmas.Bool.{false≢true}
use Rattle.hinge_form.specs.Triples.{of_form}
use Rattle.hinge_form.proofs.Relations.{apart_from, along_fits, along_wide}
use Rattle.hinge_form.proofs.lines.same_line.Goals as goal

pub returns-then-is_nothing-clause-fits : goal.returns-then-is_nothing-clause-fits
returns-then-is_nothing-clause-fits c =
    along_fits c.args.f.now (of_form c.args.one.now) (of_form c.args.two.now) c.along.result (c.in-Ok.ensures.fits.0 refl)
    (sym c.in-Ok.ensures.exact ∙ c.if-is_nothing.ensures.0 refl) c.along.ensures.fits

pub returns-then-is_nothing-clause-wide : goal.returns-then-is_nothing-clause-wide
returns-then-is_nothing-clause-wide c =
    along_wide c.args.f.now (of_form c.args.one.now) (of_form c.args.two.now) c.along.result (c.in-Ok.ensures.fits.0 refl)
    (sym c.in-Ok.ensures.exact ∙ c.if-is_nothing.ensures.0 refl) c.along.ensures.fits c.along.ensures.wide

pub returns-else-is_nothing-clause-relation : goal.returns-else-is_nothing-clause-relation
returns-else-is_nothing-clause-relation c =
    apart_from c.args.f.now c.is_field.ensures (of_form c.args.one.now) (of_form c.args.two.now) (λ none. false≢true (c.if-is_nothing.ensures.1 (c.in-Ok.ensures.exact ∙ none)))
