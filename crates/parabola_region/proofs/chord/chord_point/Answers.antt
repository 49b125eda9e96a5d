use Rattle.std.proofs.Common.{◌∙◌, refl, sym}
use Rattle.std.proofs.lemmas.Bool.{false≢true}
use Rattle.hinge_form.specs.Triples.{of_form}
use Rattle.parabola_region.proofs.Starts.{slanted_some}
use Rattle.parabola_region.proofs.chord.chord_point.Goals as goal

pub reduced_place-requires-in-Ok-slanted : goal.reduced_place-requires-in-Ok-slanted
reduced_place-requires-in-Ok-slanted c none =
    slanted_some c.args.f.now c.is_field.ensures (of_form c.args.line.now) c.requires (λ z. false≢true (c.if-is_zero.ensures.1 z)) (sym c.in-Ok-slanted.ensures.exact ∙ none)

pub returns-in-Err-clause-wide : goal.returns-in-Err-clause-wide
returns-in-Err-clause-wide c = (refl, λ fits. false≢true (c.in-Err.ensures.fits.1 (fits.0 (c.if-is_zero.ensures.0 refl))))

pub returns-in-Err-slanted-clause-wide : goal.returns-in-Err-slanted-clause-wide
returns-in-Err-slanted-clause-wide c = (refl, λ fits. false≢true (c.in-Err-slanted.ensures.fits.1 (fits.1 (λ z. false≢true (c.if-is_zero.ensures.1 z)))))
